-- An index stands for the same history under more names.
use Rattle.std.proofs.Common.{◌≡◌, ℕ, Bool, true, false, ◌&&◌, ◌||◌, cond, List, [], ◌∷◌, length, refl, ap, sym, ◌∙◌, Some}
use Rattle.std.specs.Prelude.{IsTrue, is_some, option_map, ◌==◌}
use Rattle.std.specs.List.{list_any}
use Rattle.spaces.specs.declared.roster.Roster.{Roster}
use Rattle.spaces.specs.declared.roster.Request.{Request}
use Rattle.spaces.specs.declared.site.Target.{Target}
use Rattle.spaces.specs.declared.site.Target.TheVariants.{Server, Proxy, Socks}
use Rattle.spaces.specs.ProtectionSpaces.{ProtectionSpace}
use Rattle.spaces.specs.Sites.{numbered, same_target}
use Rattle.auth_events.specs.declared.journal.Entry.{Entry}
use Rattle.auth_events.specs.Tables.{AreNames, Tables}
use Rattle.auth_events.specs.Past.{live}
use Rattle.auth_events.specs.Book.{IsLegalPast, allowed_call, begins, is_default, is_open, no_entry, own, space_selected, target_of}
use Rattle.auth_events.proofs.Numbers.{and_right}
use Rattle.auth_events.proofs.MoreNames.{Extends, IsLegal-more, target-same, epoch-same}
use Rattle.path_lookup.proofs.Lasting.{lasts as dirs_last}
use Rattle.auth_cache.proofs.Steps.{lasts}
use Rattle.auth_book.specs.Parts.{entries_at, notes_at, part_of}
use Rattle.auth_book.specs.declared.index.BookIndex.{BookIndex}
use Rattle.auth_book.specs.SiteNumbers.{site_no}
use Rattle.auth_book.specs.Indices.{StandsFor, request_row, space_row, was_default_for}
use Rattle.auth_book.proofs.PagesOf.{pages_of}
use Rattle.auth_book.proofs.Here.{Named, live_named}
use Rattle.auth_book.proofs.Defaults.{told_ambient}

module _ (roster : Roster) (names more : Tables) (ext : Extends names more) (are : AreNames names) (past : List Entry) (legal : IsLegalPast roster names past) where
  -- live spaces are named, and named spaces keep their names
  live_same : (s : ℕ) → live past s ≡ true → numbered more.spaces s ≡ numbered names.spaces s
  live_same s lives = ext.spaces s (live_named roster names past legal s lives)

  legal_more : IsLegalPast roster more past
  legal_more = IsLegal-more roster names more ext (length roster.requests) past (pages_of roster names past legal) legal

  -- DEFAULTS

  default_more : (history : List Entry) → IsLegalPast roster names history → (r : ℕ) (target : Target) → was_default_for names history r target ≡ was_default_for more history r target
  default_more [] legal' r target = refl
  default_more (entry ∷ history) legal' r target = at (entry.request == r) (default_more history legal'.0 r target)
    where
      p : Entry → Bool
      p e = is_default e.reply && same_target (target_of names (space_selected e.call)) target

      q : Entry → Bool
      q e = is_default e.reply && same_target (target_of more (space_selected e.call)) target

      one : p entry ≡ q entry
      one = of (is_default entry.reply) refl
        where
          of : (b : Bool) → is_default entry.reply ≡ b → (b && same_target (target_of names (space_selected entry.call)) target) ≡ (b && same_target (target_of more (space_selected entry.call)) target)
          of false told = refl
          of true told =
              let there = told_ambient roster names are history entry.request entry.call entry.reply (and_right (cond (begins entry.call) (no_entry history entry.request) (is_open history entry.caller entry.request)) (allowed_call roster names history entry.request entry.call) legal'.1.0) legal'.1.1 legal'.1.2 told in
              ap (λ t. same_target t target) (target-same roster names more ext (space_selected entry.call) (ap is_some there.there))

      at : (b : Bool) → list_any p (own history r) ≡ list_any q (own history r) → list_any p (cond b (entry ∷ own history r) (own history r)) ≡ list_any q (cond b (entry ∷ own history r) (own history r))
      at true before = ap (λ b. b || list_any p (own history r)) one ∙ ap (λ b. q entry || b) before
      at false before = before

  row_more : (r : ℕ) → request_row names past r ≡ request_row more past r
  row_more r =
      let server = default_more past legal r Server in
      let proxy = default_more past legal r Proxy in
      let socks = default_more past legal r Socks in
      cc

  -- an index whose rows of spaces fit the names
  pub stands_more : (index after : BookIndex) → StandsFor index roster names past → ((s : ℕ) → Named names s → site_no names s ≡ site_no more s)
      → ((space : ProtectionSpace) (s : ℕ) → numbered more.spaces s ≡ Some space → IsTrue (is_some (part_of index.partitions space.site.partition)))
      → ((s : ℕ) → numbered after.spaces.items s ≡ option_map (λ _. space_row more index.partitions past s) (numbered more.spaces s))
      → after.partitions ≡ index.partitions → after.prompts ≡ index.prompts → after.led ≡ index.led → after.requests ≡ index.requests → after.epochs ≡ index.epochs
      → StandsFor after roster more past
  stands_more index after stands sites records rows partitions prompts led requests epochs = record {
    caches = λ p. rw partitions (lasts names more p past (entries_at (part_of index.partitions p)) live_same (stands.caches p));
    paths = λ p. rw partitions (dirs_last roster names more (site_no names) (site_no more) p past (notes_at (part_of index.partitions p)) legal legal_more live_same
        (λ s lives. sym (sites s (live_named roster names past legal s lives))) (stands.paths p));
    records = λ space s there. rw partitions (records space s there);
    prompts = ap (λ v. v.prompts) prompts ∙ stands.prompts;
    prompt_room = ap (λ v. v.requests) prompts ∙ stands.prompt_room;
    spaces = λ s. rows s ∙ ap (λ ps. option_map (λ (_ : ProtectionSpace). space_row more ps past s) (numbered more.spaces s)) (sym partitions);
    requests = λ r. ap (λ v. numbered v.items r) requests ∙ (stands.requests r ∙ ap (λ row. option_map (λ (_ : Request). row) (numbered roster.requests r)) (row_more r));
    led = ap (λ v. v.items) led ∙ stands.led;
    led_room = rw led stands.led_room;
    epoch_count = ap (λ v. length v.items) epochs ∙ stands.epoch_count;
    epochs = λ n first last. ap (λ v. numbered v.items n) epochs ∙ (stands.epochs n first last ∙ ap Some (epoch-same roster names more ext (length roster.requests) past (pages_of roster names past legal) legal n));
  }
