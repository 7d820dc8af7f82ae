-- An index that has been told an entry stands for the history with that entry.
use Rattle.std.proofs.Common.{◌≡◌, ℕ, ◌*◌, ◌≤◌, Bool, false, List, ◌∷◌, length, refl, ap, sym, subst, ◌∙◌, arith, Option, Some, None}
use Rattle.std.specs.Prelude.{IsTrue, is_some, find, option_map, unwrap_or, bytes_eq, ◌&&◌}
use Rattle.std.proofs.lemmas.Bool.{false≢true}
use Rattle.spaces.specs.declared.roster.Roster.{Roster}
use Rattle.spaces.specs.ProtectionSpaces.{ProtectionSpace}
use Rattle.spaces.specs.Sites.{numbered, same_scheme}
use Rattle.spaces.specs.declared.space.Scheme.TheVariants.{Digest}
use Rattle.auth_events.specs.declared.journal.Entry.{Entry}
use Rattle.auth_events.specs.declared.names.TermsName.{TermsName}
use Rattle.auth_events.specs.Tables.{AreFew, AreNames, Tables, is_home, nonce_named}
use Rattle.auth_events.specs.Past.{spaces_given, terms}
use Rattle.auth_events.specs.Book.{IsLegalPast, is_of_partition, nonce_of, retired, takes_out}
use Rattle.auth_events.proofs.Numbers.{numbered_in}
use Rattle.history_laws.proofs.Leaving.{takes_out_retired}
use Rattle.auth_cache.specs.Histories.{HasLive}
use Rattle.auth_cache.proofs.HistoryLemmas.{keeps_live}
use Rattle.path_lookup.specs.Histories.{HasDirs}
use Rattle.path_lookup.proofs.HistoryLemmas.{keeps_dirs}
use Rattle.prompt_queue.specs.Histories.{prompts_after}
use Rattle.prompt_queue.proofs.HistoryLemmas.{keeps}
use Rattle.auth_book.specs.declared.partitions.PartRow.{PartRow}
use Rattle.auth_book.specs.declared.index.BookIndex.{BookIndex}
use Rattle.auth_book.specs.Parts.{entries_at, notes_at, part_of}
use Rattle.auth_book.specs.SiteNumbers.{site_no}
use Rattle.auth_book.specs.Indices.{StandsFor, space_row}
use Rattle.auth_book.specs.Steps.{IsTold, retired_in}
use Rattle.auth_book.proofs.RowSteps.{rows_counted, requests_told, led_grown, epochs_length, epochs_risen}
use Rattle.auth_book.proofs.Retired.{retired_out}
use Rattle.auth_book.proofs.Telling.{entries_is, notes_is, row_after, still_there}
use Rattle.auth_book.proofs.RetiredHere.{retired_here}

some_map : {A B : Type 0} (f : A → Bool) (g : A → B) (o : Option A) → IsTrue (unwrap_or (option_map f o) false) → IsTrue (is_some (option_map g o))
some_map f g None test = absurd (false≢true test)
some_map f g (Some x) test = refl

named : (names : Tables) (name : TermsName) → IsTrue (is_home names name.space name.terms) → IsTrue (is_some (nonce_named names name))
named names name home =
    some_map (λ space. same_scheme space.scheme Digest && bytes_eq space.realm name.terms.realm) (λ space. record { site = space.site; text = name.terms.nonce }) (numbered names.spaces name.space) home

-- each nonce number is one of a nonce
nonce_within : (names : Tables) → AreNames names → (t : ℕ) → nonce_of names t ≤ length names.nonces
nonce_within names are t = at (numbered names.terms t) refl
  where
    at : (o : Option TermsName) → numbered names.terms t ≡ o → unwrap_or (option_map (λ name. name.nonce) o) 0 ≤ length names.nonces
    at None none = omega arith
    at (Some name) there =
        let home = are.home name t there in
        (numbered_in names.nonces name.nonce (ap is_some home.nonce ∙ named names name home.home)).1

-- and that of named terms is not 0
pub nonce_range : (names : Tables) → AreNames names → (t : ℕ) → IsTrue (is_some (numbered names.terms t)) → (1 ≤ nonce_of names t) × (nonce_of names t ≤ length names.nonces)
nonce_range names are t = at (numbered names.terms t) refl
  where
    at : (o : Option TermsName) → numbered names.terms t ≡ o → IsTrue (is_some o) → (1 ≤ unwrap_or (option_map (λ name. name.nonce) o) 0) × (unwrap_or (option_map (λ name. name.nonce) o) 0 ≤ length names.nonces)
    at None none some = absurd (false≢true some)
    at (Some name) there some =
        let home = are.home name t there in
        numbered_in names.nonces name.nonce (ap is_some home.nonce ∙ named names name home.home)

retired_within : (names : Tables) → AreNames names → (past : List Entry) (entry : Entry) → retired names entry past ≤ length names.nonces
retired_within names are past entry = at (find _ (spaces_given past))
  where
    at : (o : Option ℕ) → unwrap_or (option_map (λ s. nonce_of names (terms past s)) o) 0 ≤ length names.nonces
    at None = omega arith
    at (Some s) = nonce_within names are (terms past s)

module _ (roster : Roster) (names : Tables) (are : AreNames names) (few : AreFew (length roster.requests) names) (past : List Entry) (entry : Entry) (legal : IsLegalPast roster names (entry ∷ past)) (index after : BookIndex) (stands : StandsFor index roster names past) (told : IsTold roster names entry.request entry.call entry.reply index after) where
  retired_same : retired names entry past ≡ retired_in names entry.call entry.reply index
  retired_same = retired_here roster names past legal.0 index stands entry legal.1

  abbrev before : List PartRow
  before = index.partitions

  pub stands_after : StandsFor after roster names (entry ∷ past)
  stands_after = record {
    caches = λ p. subst (HasLive (is_of_partition names p) (entry ∷ past))
        (sym (ap (λ ps. entries_at (part_of ps p)) told.partitions ∙ entries_is roster names past index stands entry.request entry.call entry.reply p))
        (keeps_live roster names p past legal.0 (entries_at (part_of before p)) (stands.caches p) entry legal.1);
    paths = λ p. subst (HasDirs roster names (site_no names) (is_of_partition names p) (entry ∷ past))
        (sym (ap (λ ps. notes_at (part_of ps p)) told.partitions ∙ notes_is roster names past index stands entry.request entry.call entry.reply p))
        (keeps_dirs roster names (site_no names) p past legal.0 (notes_at (part_of before p)) (stands.paths p) entry legal.1);
    records = λ space s there. subst (λ ps. IsTrue (is_some (part_of ps space.site.partition))) (sym told.partitions)
        (still_there roster names past index stands entry.request entry.call entry.reply space.site.partition (stands.records space s there));
    prompts = told.prompts ∙ (ap (prompts_after entry.request entry.call entry.reply) stands.prompts ∙ sym (keeps roster names past entry legal));
    prompt_room = told.prompt_room ∙ stands.prompt_room;
    spaces = λ s. ap (λ rows. numbered rows s) told.spaces
        ∙ (rows_counted names before past entry index.spaces.items stands.spaces s
        ∙ ap (λ row. option_map (λ (_ : ProtectionSpace). row) (numbered names.spaces s))
        (row_after roster names past index stands entry.request entry.call entry.reply (entry ∷ past) s ∙ ap (λ ps. space_row names ps (entry ∷ past) s) (sym told.partitions)));
    requests = λ r. ap (λ rows. numbered rows r) told.requests ∙ requests_told roster names past entry index.requests.items stands.requests r;
    led = told.led ∙ led_grown past entry index.led.items stands.led;
    led_room = subst (λ n. 32 * length roster.requests ≤ n) (sym told.led_room) stands.led_room;
    epoch_count = ap length told.epochs ∙ (epochs_length (retired_in names entry.call entry.reply index) index.epochs.items ∙ stands.epoch_count);
    epochs = λ n first last. ap (λ es. numbered es n) told.epochs
        ∙ epochs_risen names past entry (16 * length roster.requests) index.epochs.items stands.epochs (retired_in names entry.call entry.reply index)
        (λ m taken. sym retired_same ∙ takes_out_retired roster names past entry legal.1 m taken)
        (λ some. subst (λ m. IsTrue (takes_out names entry past m)) retired_same (retired_out roster names past legal.0 entry legal.1 (omega (arith, some, retired_same))))
        (omega (arith, retired_same, retired_within names are past entry, few.nonces)) n first last;
  }
