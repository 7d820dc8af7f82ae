-- An index that is prepared for a space stands for the same histories.
use Rattle.std.proofs.Common.{◌≡◌, ℕ, List, refl, ap, sym, subst, ◌∙◌, Option, Some, None, length}
use Rattle.std.specs.Prelude.{IsTrue, is_some, option_map, unwrap_or}
use Rattle.spaces.specs.declared.roster.Roster.{Roster}
use Rattle.spaces.specs.ProtectionSpaces.{ProtectionSpace}
use Rattle.spaces.specs.Sites.{numbered}
use Rattle.auth_events.specs.declared.journal.Entry.{Entry}
use Rattle.auth_events.specs.Book.{is_of_partition}
use Rattle.auth_events.specs.Tables.{Tables}
use Rattle.auth_cache.specs.Histories.{HasLive}
use Rattle.path_lookup.specs.Histories.{HasDirs}
use Rattle.auth_book.specs.declared.partitions.PartRow.{PartRow}
use Rattle.auth_book.specs.declared.index.BookIndex.{BookIndex}
use Rattle.auth_book.specs.SiteNumbers.{site_no}
use Rattle.auth_book.specs.Parts.{entries_at, notes_at, part_number, part_of, with_part}
use Rattle.auth_book.specs.Indices.{StandsFor, part_no, space_row}
use Rattle.auth_book.proofs.Parts.{prepared_number, prepared_reads, prepared_still}

module _ (roster : Roster) (names : Tables) (past : List Entry) (index after : BookIndex) (stands : StandsFor index roster names past) (p : List ℕ) (partitions : after.partitions ≡ with_part index.partitions p) where
  part_no_same : (s : ℕ) → part_no names (with_part index.partitions p) s ≡ part_no names index.partitions s
  part_no_same s = at (numbered names.spaces s) refl
    where
      at : (o : Option ProtectionSpace) → numbered names.spaces s ≡ o → unwrap_or (option_map (λ (space : ProtectionSpace). part_number (with_part index.partitions p) space.site.partition) o) 0 ≡ unwrap_or (option_map (λ (space : ProtectionSpace). part_number index.partitions space.site.partition) o) 0
      at None none = refl
      at (Some space) there = prepared_number index.partitions p space.site.partition (stands.records space s there)

  row_same : (parts : List PartRow) (s : ℕ) → part_no names parts s ≡ part_no names index.partitions s → space_row names index.partitions past s ≡ space_row names parts past s
  row_same parts s same = cc

  pub stands_prepared : after.spaces.items ≡ index.spaces.items → after.prompts.prompts ≡ index.prompts.prompts → after.prompts.requests ≡ index.prompts.requests → after.led ≡ index.led → after.requests ≡ index.requests → after.epochs ≡ index.epochs → StandsFor after roster names past
  stands_prepared spaces prompts room led requests epochs = record {
    caches = λ q. subst (HasLive (is_of_partition names q) past)
        (sym (ap (λ ps. entries_at (part_of ps q)) partitions ∙ prepared_reads index.partitions p entries_at q refl)) (stands.caches q);
    paths = λ q. subst (HasDirs roster names (site_no names) (is_of_partition names q) past)
        (sym (ap (λ ps. notes_at (part_of ps q)) partitions ∙ prepared_reads index.partitions p notes_at q refl)) (stands.paths q);
    records = λ space s there. subst (λ ps. IsTrue (is_some (part_of ps space.site.partition))) (sym partitions)
        (prepared_still index.partitions p space.site.partition (stands.records space s there));
    prompts = prompts ∙ stands.prompts;
    prompt_room = room ∙ stands.prompt_room;
    spaces = λ s. ap (λ rows. numbered rows s) spaces
        ∙ (stands.spaces s
        ∙ ap (λ row. option_map (λ (_ : ProtectionSpace). row) (numbered names.spaces s))
        (row_same after.partitions s (ap (λ ps. part_no names ps s) partitions ∙ part_no_same s)));
    requests = λ r. ap (λ v. numbered v.items r) requests ∙ stands.requests r;
    led = ap (λ v. v.items) led ∙ stands.led;
    led_room = rw led stands.led_room;
    epoch_count = ap (λ v. length v.items) epochs ∙ stands.epoch_count;
    epochs = λ n first last. ap (λ v. numbered v.items n) epochs ∙ stands.epochs n first last;
  }

-- as where nothing was made
pub stands_same : (roster : Roster) (names : Tables) (past : List Entry) (index after : BookIndex) → StandsFor index roster names past → after.partitions ≡ index.partitions → after.spaces.items ≡ index.spaces.items → after.prompts.prompts ≡ index.prompts.prompts → after.prompts.requests ≡ index.prompts.requests → after.led ≡ index.led → after.requests ≡ index.requests → after.epochs ≡ index.epochs → StandsFor after roster names past
stands_same roster names past index after stands partitions spaces prompts room led requests epochs = record {
  caches = λ q. rw partitions (stands.caches q);
  paths = λ q. rw partitions (stands.paths q);
  records = λ space s there. rw partitions (stands.records space s there);
  prompts = prompts ∙ stands.prompts;
  prompt_room = room ∙ stands.prompt_room;
  spaces = λ s. ap (λ rows. numbered rows s) spaces ∙ (stands.spaces s ∙ ap (λ ps. option_map (λ (_ : ProtectionSpace). space_row names ps past s) (numbered names.spaces s)) (sym partitions));
  requests = λ r. ap (λ v. numbered v.items r) requests ∙ stands.requests r;
  led = ap (λ v. v.items) led ∙ stands.led;
  led_room = rw led stands.led_room;
  epoch_count = ap (λ v. length v.items) epochs ∙ stands.epoch_count;
  epochs = λ n first last. ap (λ v. numbered v.items n) epochs ∙ stands.epochs n first last;
}
