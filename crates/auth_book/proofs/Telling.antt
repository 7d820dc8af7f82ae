-- An entry is told to the record of one partition: that of the space that it is about.
use Rattle.std.proofs.Common.{◌≡◌, ℕ, Bool, true, false, cond, List, refl, ap, sym, subst, ◌∙◌, Option, Some, None}
use Rattle.std.specs.Prelude.{IsTrue, is_some, option_map, unwrap_or, bytes_eq}
use Rattle.std.proofs.lemmas.Bool.{false≢true}
use Rattle.spaces.specs.declared.roster.Roster.{Roster}
use Rattle.spaces.specs.ProtectionSpaces.{ProtectionSpace}
use Rattle.spaces.specs.Sites.{numbered}
use Rattle.auth_events.specs.declared.journal.Entry.{Entry}
use Rattle.auth_events.specs.declared.journal.Call.{Call}
use Rattle.auth_events.specs.declared.journal.Call.TheVariants.{Note as Notes}
use Rattle.auth_events.specs.declared.journal.BookReply.{BookReply}
use Rattle.auth_events.specs.declared.journal.BookReply.TheVariants.{Noted}
use Rattle.auth_events.specs.Tables.{Tables}
use Rattle.auth_events.specs.Book.{is_of_partition, space_named}
use Rattle.auth_events.proofs.Same.{bytes_same}
use Rattle.history_laws.specs.Partitions.{space_about}
use Rattle.auth_cache.specs.Histories.{entries_after, entries_told}
use Rattle.path_lookup.specs.declared.index.Note.{Note}
use Rattle.path_lookup.specs.Histories.{notes_after, notes_told}
use Rattle.auth_book.specs.declared.partitions.PartRow.{PartRow}
use Rattle.auth_book.specs.declared.index.BookIndex.{BookIndex}
use Rattle.auth_book.specs.SiteNumbers.{site_no}
use Rattle.auth_book.specs.Parts.{entries_at, notes_at, part_number, part_of}
use Rattle.auth_book.specs.Indices.{StandsFor, part_no, space_row}
use Rattle.auth_book.specs.Steps.{part_told, parts_after, parts_by_row, parts_told}
use Rattle.auth_book.proofs.Parts.{same_number, told_number, told_part}

-- a note has the number of its own space's site
site_noted : (roster : Roster) (names : Tables) (sites : ℕ → ℕ) (r : ℕ) (call : Call) (reply : BookReply) (ns : List Note) → notes_after roster names (λ _. sites (space_about call reply)) r call reply ns ≡ notes_after roster names sites r call reply ns
site_noted roster names sites r (Notes gift) Noted ns = refl
site_noted roster names sites r call reply ns = refl

module _ (roster : Roster) (names : Tables) (past : List Entry) (index : BookIndex) (stands : StandsFor index roster names past) (r : ℕ) (call : Call) (reply : BookReply) where
  abbrev about : ℕ
  about = space_about call reply

  abbrev parts : List PartRow
  parts = index.partitions

  abbrev after : List PartRow
  after = parts_after roster names r call reply index

  abbrev told : PartRow → PartRow
  told = part_told roster names (site_no names about) r call reply

  row_of : (space : ProtectionSpace) → numbered names.spaces about ≡ Some space → after ≡ parts_told parts (part_number parts space.site.partition) told
  row_of space there =
      ap (parts_by_row roster names r call reply parts) (stands.spaces about ∙ ap (option_map (λ (_ : ProtectionSpace). space_row names parts past about)) there)
      ∙ ap (λ o. parts_told parts (unwrap_or (option_map (λ (one : ProtectionSpace). part_number parts one.site.partition) o) 0) told) there

  no_row : numbered names.spaces about ≡ None → after ≡ parts
  no_row none =
      ap (parts_by_row roster names r call reply parts) (stands.spaces about ∙ ap (option_map (λ (_ : ProtectionSpace). space_row names parts past about)) none)

  -- the records keep their numbers
  pub number_after : (q : List ℕ) → part_number after q ≡ part_number parts q
  number_after q = at (numbered names.spaces about) refl
    where
      at : (o : Option ProtectionSpace) → numbered names.spaces about ≡ o → part_number after q ≡ part_number parts q
      at None none = ap (λ ps. part_number ps q) (no_row none)
      at (Some space) there =
          ap (λ ps. part_number ps q) (row_of space there) ∙ told_number told (λ part. refl) parts (part_number parts space.site.partition) q

  -- the record of the partition of the space is told the entry, and no other
  part_after : (q : List ℕ) → part_of after q ≡ cond (is_of_partition names q about) (option_map told (part_of parts q)) (part_of parts q)
  part_after q = at (numbered names.spaces about) refl
    where
      mine_is : (o : Option ProtectionSpace) → numbered names.spaces about ≡ o → is_of_partition names q about ≡ unwrap_or (option_map (λ (one : ProtectionSpace). bytes_eq one.site.partition q) o) false
      mine_is o is = ap (λ o'. unwrap_or (option_map (λ (one : ProtectionSpace). bytes_eq one.site.partition q) o') false) is

      at : (o : Option ProtectionSpace) → numbered names.spaces about ≡ o → part_of after q ≡ cond (is_of_partition names q about) (option_map told (part_of parts q)) (part_of parts q)
      at None none =
          ap (λ ps. part_of ps q) (no_row none) ∙ sym (ap (λ b. cond b (option_map told (part_of parts q)) (part_of parts q)) (mine_is None none))
      at (Some space) there =
          ap (λ ps. part_of ps q) (row_of space there)
          ∙ (told_part told (λ part. refl) parts (part_number parts space.site.partition) q
          ∙ ap (λ b. cond b (option_map told (part_of parts q)) (part_of parts q))
          (same_number parts space.site.partition q (stands.records space about there) ∙ sym (mine_is (Some space) there)))

  own_there : (q : List ℕ) → is_of_partition names q about ≡ true → IsTrue (is_some (part_of parts q))
  own_there q own = at (numbered names.spaces about) refl own
    where
      at : (o : Option ProtectionSpace) → numbered names.spaces about ≡ o → unwrap_or (option_map (λ (one : ProtectionSpace). bytes_eq one.site.partition q) o) false ≡ true → IsTrue (is_some (part_of parts q))
      at None none is = absurd (false≢true is)
      at (Some space) there is = subst (λ p. IsTrue (is_some (part_of parts p))) (bytes_same space.site.partition q is) (stands.records space about there)

  pub entries_is : (q : List ℕ) → entries_at (part_of after q) ≡ entries_told (is_of_partition names q) 32 call reply (entries_at (part_of parts q))
  entries_is q = ap entries_at (part_after q) ∙ at (is_of_partition names q about) refl (part_of parts q) refl
    where
      at : (b : Bool) → is_of_partition names q about ≡ b → (o : Option PartRow) → part_of parts q ≡ o → entries_at (cond b (option_map told o) o) ≡ cond b (entries_after 32 call reply (entries_at o)) (entries_at o)
      at false other o is = refl
      at true own None none = absurd (false≢true (sym (ap is_some none) ∙ own_there q own))
      at true own (Some part) there = refl

  pub notes_is : (q : List ℕ) → notes_at (part_of after q) ≡ notes_told roster names (site_no names) (is_of_partition names q) r call reply (notes_at (part_of parts q))
  notes_is q = ap notes_at (part_after q) ∙ at (is_of_partition names q about) refl (part_of parts q) refl
    where
      at : (b : Bool) → is_of_partition names q about ≡ b → (o : Option PartRow) → part_of parts q ≡ o → notes_at (cond b (option_map told o) o) ≡ cond b (notes_after roster names (site_no names) r call reply (notes_at o)) (notes_at o)
      at false other o is = refl
      at true own None none = absurd (false≢true (sym (ap is_some none) ∙ own_there q own))
      at true own (Some part) there = site_noted roster names (site_no names) r call reply part.paths.notes

  pub still_there : (q : List ℕ) → IsTrue (is_some (part_of parts q)) → IsTrue (is_some (part_of after q))
  still_there q some = ap is_some (part_after q) ∙ at (is_of_partition names q about) (part_of parts q) some
    where
      at : (b : Bool) (o : Option PartRow) → IsTrue (is_some o) → is_some (cond b (option_map told o) o) ≡ true
      at true None is = absurd (false≢true is)
      at true (Some part) is = refl
      at false o is = is

  pub row_after : (history : List Entry) (s : ℕ) → space_row names parts history s ≡ space_row names after history s
  row_after history s = row_by parts after (sym (at (space_named names s)))
    where
      at : (o : Option ProtectionSpace) → unwrap_or (option_map (λ space. part_number after space.site.partition) o) 0 ≡ unwrap_or (option_map (λ space. part_number parts space.site.partition) o) 0
      at None = refl
      at (Some space) = number_after space.site.partition

      row_by : (a b : List PartRow) → part_no names a s ≡ part_no names b s → space_row names a history s ≡ space_row names b history s
      row_by a b same = cc
