-- A space more that is named, and its row.
use Rattle.std.proofs.Common.{◌≡◌, ℕ, zero, suc, ◌+◌, Bool, true, false, List, [], ◌∷◌, ◌++◌, length, refl, ap, sym, subst, ◌∙◌, inl, inr, arith, Option, Some, None}
use Rattle.std.specs.Prelude.{IfSome, IsTrue, is_some, option_map, unwrap_or, ◌==◌}
use Rattle.std.proofs.lemmas.Bool.{false≢true}
use Rattle.spaces.specs.declared.roster.Roster.{Roster}
use Rattle.spaces.specs.ProtectionSpaces.{ProtectionSpace}
use Rattle.spaces.specs.Sites.{numbered, same_site}
use Rattle.auth_events.specs.declared.journal.Entry.{Entry}
use Rattle.auth_events.specs.Tables.{AreNames, Tables, number_of, with_space, with_terms, with_text}
use Rattle.auth_text.specs.Login.{Login}
use Rattle.auth_events.specs.declared.names.TermsName.{TermsName}
use Rattle.auth_events.specs.Past.{givings}
use Rattle.auth_events.specs.Book.{IsLegalPast}
use Rattle.auth_events.proofs.Numbers.{none_numbered, numbered-append, numbered-last, numbered-push}
use Rattle.auth_events.proofs.Same.{number_same, number_refl, site_refl}
use Rattle.auth_events.proofs.MoreNames.{extends_by_space, extends_by_terms, extends_by_text}
use Rattle.auth_book.specs.declared.index.BookIndex.{BookIndex}
use Rattle.auth_book.specs.declared.index.SpaceRow.{SpaceRow}
use Rattle.auth_book.specs.SiteNumbers.{site_no, site_number}
use Rattle.auth_book.specs.Indices.{StandsFor, part_no, space_row}
use Rattle.auth_book.specs.Parts.{part_number, part_of}
use Rattle.auth_book.proofs.Parts.{number_more, pushed_length}
use Rattle.auth_book.proofs.Here.{Named, given_is_named}
use Rattle.auth_book.proofs.MoreNames.{stands_more}

pub row_of_parts : (a b g h k l : ℕ) → a ≡ b → g ≡ h → k ≡ l → ◌≡◌ {A = SpaceRow} (record { site = a; givings = g; partition = k }) (record { site = b; givings = h; partition = l })
row_of_parts a b g h k l same_site_no same_givings same_partition = cc

module _ (roster : Roster) (names : Tables) (space : ProtectionSpace) (are : AreNames names) (past : List Entry) (legal : IsLegalPast roster names past) where
  abbrev more : Tables
  more = with_space names space

  -- the space's site has a number
  numbered_site : (s : ℕ) (one : ProtectionSpace) → numbered names.spaces s ≡ Some one → is_some (number_of (λ other. same_site other.site one.site) names.spaces) ≡ true
  numbered_site s one there = at (number_of (λ other. same_site other.site one.site) names.spaces) refl
    where
      at : (o : Option ℕ) → number_of (λ other. same_site other.site one.site) names.spaces ≡ o → is_some o ≡ true
      at None none = absurd (false≢true (sym (none_numbered (λ (other : ProtectionSpace). same_site other.site one.site) names.spaces none s one there) ∙ site_refl one.site))
      at (Some k) found = refl

  -- a space's site keeps its number
  pub sites_same : (s : ℕ) → Named names s → site_no names s ≡ site_no more s
  sites_same s named = at (numbered names.spaces s) refl named ∙ sym (ap (λ o. unwrap_or (option_map (λ (one : ProtectionSpace). site_number more one.site) o) 0) (numbered-append names.spaces (space ∷ []) s named))
    where
      at : (o : Option ProtectionSpace) → numbered names.spaces s ≡ o → IsTrue (is_some o) → unwrap_or (option_map (λ one. site_number names one.site) o) 0 ≡ unwrap_or (option_map (λ one. site_number more one.site) o) 0
      at None none some = absurd (false≢true some)
      at (Some one) there some =
          ap (λ o. unwrap_or o 0) (sym (number_more (λ other. same_site other.site one.site) names.spaces space (numbered_site s one there)))

  never_given : (s : ℕ) → is_some (numbered names.spaces s) ≡ false → givings past s ≡ 0
  never_given s none = at (givings past s) refl
    where
      at : (n : ℕ) → givings past s ≡ n → n ≡ 0
      at zero is = refl
      at (suc n) is = absurd (false≢true (sym none ∙ given_is_named roster names past legal s (omega (arith, is))))

  module _ (index after : BookIndex) (stands : StandsFor index roster names past) (grown : after.spaces.items ≡ index.spaces.items ++ space_row (with_space names space) index.partitions [] (length names.spaces + 1) ∷ []) (count : length index.spaces.items ≡ length names.spaces) where
    parts_same : (s : ℕ) → Named names s → part_no names index.partitions s ≡ part_no more index.partitions s
    parts_same s named = ap (λ o. unwrap_or (option_map (λ (one : ProtectionSpace). part_number index.partitions one.site.partition) o) 0) (sym (numbered-append names.spaces (space ∷ []) s named))

    row_same : (s : ℕ) → Named names s → space_row names index.partitions past s ≡ space_row more index.partitions past s
    row_same s named =
        row_of_parts (site_no names s) (site_no more s) (givings past s) (givings past s) (part_no names index.partitions s) (part_no more index.partitions s) (sites_same s named) refl (parts_same s named)

    rows_more : (s : ℕ) → numbered after.spaces.items s ≡ option_map (λ _. space_row more index.partitions past s) (numbered more.spaces s)
    rows_more s = ap (λ rows. numbered rows s) grown ∙ at (is_some (numbered names.spaces s)) refl (s == length names.spaces + 1) refl
      where
        new_row : SpaceRow
        new_row = space_row (with_space names space) index.partitions [] (length names.spaces + 1)

        some_row : (o : Option ProtectionSpace) → is_some o ≡ true → is_some (option_map (λ _. space_row names index.partitions past s) o) ≡ true
        some_row None is = is
        some_row (Some one) is = refl

        at : (b : Bool) → is_some (numbered names.spaces s) ≡ b → (c : Bool) → (s == length names.spaces + 1) ≡ c → numbered (index.spaces.items ++ new_row ∷ []) s ≡ option_map (λ _. space_row more index.partitions past s) (numbered (names.spaces ++ space ∷ []) s)
        at true named c is =
            numbered-append index.spaces.items (new_row ∷ []) s (ap is_some (stands.spaces s) ∙ some_row (numbered names.spaces s) named)
            ∙ (stands.spaces s
            ∙ (ap (λ row. option_map (λ (_ : ProtectionSpace). row) (numbered names.spaces s)) (row_same s named)
            ∙ sym (ap (option_map (λ (_ : ProtectionSpace). space_row more index.partitions past s)) (numbered-append names.spaces (space ∷ []) s named))))
        at false unnamed true last =
            let is : s ≡ length names.spaces + 1 = number_same s (length names.spaces + 1) last in
            let here : s ≡ length index.spaces.items + 1 = omega (arith, is, count) in
            ap (numbered (index.spaces.items ++ new_row ∷ [])) here
            ∙ (numbered-last index.spaces.items new_row
            ∙ (ap Some (row_of_parts (site_no more (length names.spaces + 1)) (site_no more s) 0 (givings past s) (part_no more index.partitions (length names.spaces + 1)) (part_no more index.partitions s) (ap (site_no more) (sym is)) (sym (never_given s unnamed)) (ap (part_no more index.partitions) (sym is)))
            ∙ sym (ap (option_map (λ (_ : ProtectionSpace). space_row more index.partitions past s)) (ap (numbered (names.spaces ++ space ∷ [])) is ∙ numbered-last names.spaces space))))
        at false unnamed false other =
            none_of (numbered (index.spaces.items ++ new_row ∷ []) s) refl
            ∙ sym (ap (option_map (λ (_ : ProtectionSpace). space_row more index.partitions past s)) (none_named (numbered (names.spaces ++ space ∷ []) s) refl))
          where
            none_named : (o : Option ProtectionSpace) → numbered (names.spaces ++ space ∷ []) s ≡ o → o ≡ None
            none_named None is = refl
            none_named (Some one) is =
                elim (numbered-push names.spaces space one s is) [
                  | inl there ↦ absurd (false≢true (sym unnamed ∙ ap is_some there))
                  | inr last ↦ absurd (false≢true (sym other ∙ (ap (λ n. n == length names.spaces + 1) last.0 ∙ number_refl (length names.spaces + 1))))
                ]

            no_row : (o : Option ProtectionSpace) → is_some o ≡ false → is_some (option_map (λ _. space_row names index.partitions past s) o) ≡ false
            no_row None is = refl
            no_row (Some one) is = is

            none_of : (o : Option SpaceRow) → numbered (index.spaces.items ++ new_row ∷ []) s ≡ o → o ≡ None
            none_of None is = refl
            none_of (Some row) is =
                elim (numbered-push index.spaces.items new_row row s is) [
                  | inl there ↦ absurd (false≢true (sym (ap is_some (stands.spaces s) ∙ no_row (numbered names.spaces s) unnamed) ∙ ap is_some there))
                  | inr last ↦ absurd (false≢true (sym other ∙ (ap (λ n. n == length names.spaces + 1) (last.0 ∙ ap (λ n. n + 1) count) ∙ number_refl (length names.spaces + 1))))
                ]

    pub stands_with_space : IsTrue (is_some (part_of index.partitions space.site.partition)) → after.partitions ≡ index.partitions → after.prompts ≡ index.prompts → after.led ≡ index.led → after.requests ≡ index.requests → after.epochs ≡ index.epochs → StandsFor after roster more past
    stands_with_space has_record partitions prompts led requests epochs =
        stands_more roster names more (extends_by_space names space) are past legal index after stands sites_same records rows_more partitions prompts led requests epochs
      where
        records : (one : ProtectionSpace) (s : ℕ) → numbered (names.spaces ++ space ∷ []) s ≡ Some one → IsTrue (is_some (part_of index.partitions one.site.partition))
        records one s there =
            elim (numbered-push names.spaces space one s there) [
              | inl known ↦ stands.records one s known
              | inr last ↦ subst (λ (x : ProtectionSpace). IsTrue (is_some (part_of index.partitions x.site.partition))) last.1 has_record
            ]

-- the names have a space more, and it gets its row
pub stands_added : (roster : Roster) (names before : Tables) (space : ProtectionSpace) (past : List Entry) (index after : BookIndex) → after.spaces.items ≡ index.spaces.items ++ space_row names index.partitions [] (length names.spaces) ∷ [] → length names.spaces ≡ length index.spaces.items + 1
    → IfSome (numbered names.spaces (length names.spaces)) (λ one. IsTrue (is_some (part_of index.partitions one.site.partition)))
    → names ≡ with_space before space → AreNames before → IsLegalPast roster before past → StandsFor index roster before past
    → after.partitions ≡ index.partitions → after.prompts ≡ index.prompts → after.led ≡ index.led → after.requests ≡ index.requests → after.epochs ≡ index.epochs → StandsFor after roster names past
stands_added roster names before space past index after row count has_record is are legal stands partitions prompts led requests epochs =
    let more : Tables = with_space before space in
    let last : length (before.spaces ++ space ∷ []) ≡ length before.spaces + 1 = pushed_length before.spaces space in
    let same : length names.spaces ≡ length (before.spaces ++ space ∷ []) = ap (λ (ns : Tables). length ns.spaces) is in
    subst (λ ns. StandsFor after roster ns past) (sym is)
    (stands_with_space roster before space are past legal index after stands
    (row ∙ (ap (λ (ns : Tables). index.spaces.items ++ space_row ns index.partitions [] (length ns.spaces) ∷ []) is ∙ ap (λ n. index.spaces.items ++ space_row more index.partitions [] n ∷ []) last))
    (omega (arith, count, same, last))
    (subst (λ o. IfSome o (λ (one : ProtectionSpace). IsTrue (is_some (part_of index.partitions one.site.partition))))
    (ap (λ (ns : Tables). numbered ns.spaces (length ns.spaces)) is ∙ (ap (numbered (before.spaces ++ space ∷ [])) last ∙ numbered-last before.spaces space)) has_record)
    partitions prompts led requests epochs)

-- TERMS AND TEXTS

module _ (roster : Roster) (names : Tables) (are : AreNames names) (past : List Entry) (legal : IsLegalPast roster names past) (index : BookIndex) (stands : StandsFor index roster names past) where
  pub stands_with_terms : (name : TermsName) → StandsFor index roster (with_terms names name) past
  stands_with_terms name =
      stands_more roster names (with_terms names name) (extends_by_terms names name) are past legal index index stands (λ s named. refl) stands.records stands.spaces refl refl refl refl refl

  pub stands_with_text : (text : Login) → StandsFor index roster (with_text names text) past
  stands_with_text text =
      stands_more roster names (with_text names text) (extends_by_text names text) are past legal index index stands (λ s named. refl) stands.records stands.spaces refl refl refl refl refl
