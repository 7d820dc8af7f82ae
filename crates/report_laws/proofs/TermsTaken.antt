-- All names are taken as they were.
use Rattle.std.proofs.Common.{◌≡◌, ℕ, suc, ◌+◌, ◌*◌, ◌^◌, ◌<◌, ◌≤◌, ◌==◌, ◌&&◌, cond, Bool, true, false, List, [], ◌∷◌, ◌++◌, length, take, Option, Some, None, refl, sym, ap, ◌∙◌, arith, append_assoc, append-nil, length-append, inl, inr}
use Rattle.std.specs.Prelude.{nat_le, is_none, bytes_eq, option_map, option_and_then, unwrap_or, slice_get}
use Rattle.std.specs.List.{cons_option}
use Rattle.std.proofs.lemmas.Bool.{false≢true, cases_lt}
use Rattle.std.proofs.lemmas.Bool.Decides.{nat_tests}
use Rattle.std.proofs.lemmas.List.{take_all}
use Rattle.auth_text.specs.Login.{Login}
use Rattle.spaces.specs.ProtectionSpaces.{ProtectionSpace}
use Rattle.spaces.specs.declared.space.Scheme.TheVariants.{Digest}
use Rattle.spaces.specs.Sites.{numbered, same_scheme}
use Rattle.spaces.specs.DigestTerms.{same_terms}
use Rattle.auth_events.specs.declared.names.TermsName.{TermsName}
use Rattle.auth_events.specs.declared.names.NonceName.{NonceName}
use Rattle.auth_events.specs.Tables.{Tables, AreNames, AreAtHome, AreFew, no_names, terms_number, is_that_terms, nonce_number, nonce_for, nonce_named, with_nonce, with_terms, is_rising, larger, nonce_numbers}
use Rattle.auth_events.proofs.Numbers.{numbered_suc}
use Rattle.auth_events.proofs.Same.{bytes_same, number_same, terms_same}
use Rattle.auth_runs.specs.Runs.{Each}
use Rattle.report_lines.specs.NameLines.{space_line, terms_line, text_line}
use Rattle.report_reading.specs.Words.{◌>>=◌}
use Rattle.report_reading.specs.Forms.{realm_at, digest_realm}
use Rattle.report_reading.specs.Reading.{terms_at}
use Rattle.report_reading.proofs.Tests.{both}
use Rattle.auth_report.specs.Sections.{taken}
use Rattle.auth_report.specs.Steps.{space_step, terms_step, text_step, is_new_terms, if_so}
use Rattle.auth_report.specs.Reading.{names_front}
use Rattle.report_laws.specs.Ranges.{SpaceHolds, TermsHolds, TextHolds}
use Rattle.report_laws.specs.Lines.{numbered_lines}
use Rattle.report_laws.proofs.WordLemmas.{and_true}
use Rattle.report_laws.proofs.TermsAgain.{terms_again}
use Rattle.report_laws.proofs.NamesFront.{numbered_next, numbered_before, within, not_found, space_stops, spaces_taken, text_stops, texts_taken}
use Rattle.report_laws.proofs.TermsFront.{terms_stops, top, next_range, top_few, top_next, length_take, take_next, number_again}
use Rattle.report_laws.proofs.Fronts.{begins, later, le_test, lt_test, equal_test, taken_more, taken_stop}

-- THE SPACE OF TERMS

record IsHomeSpace (names : Tables) (name : TermsName) : Type 0 where
  space : ProtectionSpace
  there : numbered names.spaces name.space ≡ Some space
  realm : realm_at names.spaces name.space ≡ Some name.terms.realm
  nonce : numbered names.nonces name.nonce ≡ Some (record { site = space.site; text = name.terms.nonce })

digest_is : (space : ProtectionSpace) (realm : List ℕ) → same_scheme space.scheme Digest ≡ true → space.realm ≡ realm → digest_realm space ≡ Some realm
digest_is space realm scheme is = rw scheme (ap Some is)

home_space : (names : Tables) (name : TermsName) → AreAtHome names name → IsHomeSpace names name
home_space names name h = by (numbered names.spaces name.space) refl h.home where
  by : (o : Option ProtectionSpace) → numbered names.spaces name.space ≡ o
      → unwrap_or (option_map (λ space. same_scheme space.scheme Digest && bytes_eq space.realm name.terms.realm) o) false ≡ true → IsHomeSpace names name
  by None is home = absurd (false≢true home)
  by (Some space) is home =
      let parts = both (same_scheme space.scheme Digest) (bytes_eq space.realm name.terms.realm) home in
      record {
        space = space;
        there = is;
        realm = ap (option_and_then digest_realm) is ∙ digest_is space name.terms.realm parts.0 (bytes_same space.realm name.terms.realm parts.1);
        nonce = h.nonce ∙ ap (option_map (λ (s : ProtectionSpace). record { site = s.site; text = name.terms.nonce })) is;
      }

-- THE NEXT TERMS

-- the names before the terms that are left
abbrev before : Tables → List TermsName → Tables
before names done = record { spaces = names.spaces; terms = done; nonces = take (top done) names.nonces; texts = [] }

new_terms : (names : Tables) (done xs : List TermsName) (x : TermsName) → AreNames names → names.terms ≡ done ++ x ∷ xs → terms_number (before names done) x.space x.terms ≡ None
new_terms names done xs x kept all = not_found (is_that_terms x.space x.terms) done (λ i y at same.
    let parts = both (y.space == x.space) (same_terms y.terms x.terms) same in
    let first : numbered names.terms i ≡ Some y = ap (λ (ts : List TermsName). numbered ts i) all ∙ numbered_before done (x ∷ xs) i y at in
    let here : numbered names.terms (length done + 1) ≡ Some x = ap (λ (ts : List TermsName). numbered ts (length done + 1)) all ∙ numbered_next done x xs in
    let equal = kept.terms y x i (length done + 1) first here (number_same y.space x.space parts.0) (terms_same y.terms x.terms parts.1) in
    let few = (within done i y at).1 in
    absurd (omega (arith, equal, few)))

record IsNextTerms (n : ℕ) (names : Tables) (done : List TermsName) (x : TermsName) : Type 0 where
  realm : realm_at names.spaces x.space ≡ Some x.terms.realm
  new : is_new_terms n (before names done) x ≡ true
  after : with_terms (before names done) x ≡ before names (done ++ x ∷ [])

le_false : (a b : ℕ) → b < a → nat_le a b ≡ false
le_false a b h = grind (arith, nat_tests)

tables_by : (names : Tables) (done : List TermsName) (a b : List NonceName) → a ≡ b
    → ◌≡◌ {A = Tables} (record { spaces = names.spaces; terms = done; nonces = a; texts = [] }) (record { spaces = names.spaces; terms = done; nonces = b; texts = [] })
tables_by names done a b h = ap (λ (nonces : List NonceName). record { spaces = names.spaces; terms = done; nonces = nonces; texts = [] }) h

-- the nonces with that of the next terms
nonces_next : (nonces : List NonceName) (g k : ℕ) (named : Option NonceName) (nonce : NonceName) → g ≤ length nonces → k ≤ g + 1 → named ≡ Some nonce → numbered nonces k ≡ Some nonce
    → cond (nat_le k (length (take g nonces))) (take g nonces) (take g nonces ++ cons_option named []) ≡ take (larger k g) nonces
nonces_next nonces g k named nonce few high is at =
    elim (cases_lt k (g + 1)) [
      | inl less ↦
          let inside = le_test k (length (take g nonces)) (omega (arith, less, length_take g nonces few)) in
          let same = le_test k g (omega (arith, less)) in
          rw (inside, same) refl
      | inr more ↦
          let size = length_take g nonces few in
          let outside = le_false k (length (take g nonces)) (omega (arith, more, size)) in
          let other = le_false k g (omega (arith, more)) in
          let next : k ≡ suc g = omega (arith, more, high) in
          let next_one : g + 1 ≡ k = omega (arith, more, high) in
          let there : slice_get nonces g ≡ Some nonce = sym (numbered_suc nonces g) ∙ ap (numbered nonces) (sym next) ∙ at in
          let left : cond (nat_le k (length (take g nonces))) (take g nonces) (take g nonces ++ cons_option named []) ≡ take g nonces ++ nonce ∷ [] = rw (outside, is) refl in
          let right : take (larger k g) nonces ≡ take k nonces = ap (λ (b : Bool). take (cond b g k) nonces) other in
          left ∙ sym (take_next nonces g nonce there) ∙ ap (λ (m : ℕ). take m nonces) next_one ∙ sym right
    ]

next_terms : (n : ℕ) (names : Tables) (done xs : List TermsName) (x : TermsName) → AreNames names → AreFew n names → names.terms ≡ done ++ x ∷ xs → IsNextTerms n names done x
next_terms n names done xs x kept few all =
    let there : numbered names.terms (length done + 1) ≡ Some x = ap (λ (ts : List TermsName). numbered ts (length done + 1)) all ∙ numbered_next done x xs in
    let at_home = kept.home x (length done + 1) there in
    let home = home_space names x at_home in
    let range = next_range done xs x (sym (ap (λ (ts : List TermsName). is_rising (nonce_numbers ts)) all) ∙ kept.rising) in
    let g : ℕ = top done in
    let g_few : g ≤ length names.nonces = omega (arith, top_few done (x ∷ xs), ap top all, kept.used) in
    let nonces_few = few.nonces in
    let terms_few = few.terms in
    let count : length names.terms ≡ length done + suc (length xs) = ap length all ∙ length-append done (x ∷ xs) in
    let again = number_again names.nonces g x.nonce home.space.site x.terms.nonce kept.nonces home.nonce range.0 range.1 g_few in
    let for_it : nonce_for (before names done) x.space x.terms ≡ x.nonce =
    ap (λ (o : Option ProtectionSpace). unwrap_or (option_map (λ (s : ProtectionSpace). nonce_number (before names done) s.site x.terms.nonce) o) 0) home.there ∙ again in
    let inside = (within names.nonces x.nonce (record { site = home.space.site; text = x.terms.nonce }) home.nonce).1 in
    let room = lt_test (length done) (64 * n) (omega (arith, count, terms_few)) in
    let unnamed : is_none (terms_number (before names done) x.space x.terms) ≡ true = ap is_none (new_terms names done xs x kept all) in
    let number = equal_test x.nonce (nonce_for (before names done) x.space x.terms) (sym for_it) in
    let limit = le_test x.nonce (16 * n) (omega (arith, inside, nonces_few)) in
    let named : nonce_named (before names done) x ≡ Some (record { site = home.space.site; text = x.terms.nonce }) =
    ap (option_map (λ (s : ProtectionSpace). record { site = s.site; text = x.terms.nonce })) home.there in
    record {
      realm = home.realm;
      new = and_true _ _ (and_true _ _ (and_true _ _ (and_true _ _ room at_home.home) unnamed) number) limit;
      after = tables_by names (done ++ x ∷ []) (with_nonce (before names done) x) (take (top (done ++ x ∷ [])) names.nonces)
          (nonces_next names.nonces g x.nonce (nonce_named (before names done) x) (record { site = home.space.site; text = x.terms.nonce }) g_few range.1 named home.nonce
          ∙ ap (λ (k : ℕ). take k names.nonces) (sym (top_next done x)));
    }

-- ALL TERMS

step_by : {A S : Type 0} (o : Option A) (x : A) (test : A → Bool) (add : A → S) → o ≡ Some x → test x ≡ true → (o >>= λ x. if_so (test x) (add x)) ≡ Some (add x)
step_by o x test add is passes = rw (is, passes) refl

terms_taken : (n : ℕ) (names : Tables) (done xs : List TermsName) (more : List (List ℕ)) → AreNames names → AreFew n names → n ≤ 2048 → names.terms ≡ done ++ xs → Each TermsHolds xs
    → taken (terms_step n) (before names done) (numbered_lines terms_line (length done + 1) xs ++ more) ≡ taken (terms_step n) (before names names.terms) more
terms_taken n names done [] more kept few small all h =
    ap (λ (ts : List TermsName). taken (terms_step n) (before names ts) more) (sym (append-nil done) ∙ sym all)
terms_taken n names done (x ∷ xs) more kept few small all h =
    let next = next_terms n names done xs x kept few all in
    let terms_few = few.terms in
    let count : length names.terms ≡ length done + suc (length xs) = ap length all ∙ length-append done (x ∷ xs) in
    let number : length done + 1 < 2 ^ 32 = omega (arith, count, terms_few, small) in
    let step : terms_step n (before names done) (terms_line (length done + 1) x) ≡ Some (with_terms (before names done) x) =
    step_by (terms_at (length done + 1) names.spaces (terms_line (length done + 1) x)) x (is_new_terms n (before names done)) (with_terms (before names done))
    (terms_again (length done + 1) names.spaces x number h.0 next.realm) next.new in
    let after : length done + 1 + 1 ≡ length (done ++ x ∷ []) + 1 = omega (arith, length-append done (x ∷ [])) in
    taken_more (terms_step n) (before names done) (with_terms (before names done) x) (terms_line (length done + 1) x) (numbered_lines terms_line (length done + 1 + 1) xs ++ more) step
    ∙ ap (λ (s : Tables). taken (terms_step n) s (numbered_lines terms_line (length done + 1 + 1) xs ++ more)) next.after
    ∙ ap (λ (k : ℕ). taken (terms_step n) (before names (done ++ x ∷ [])) (numbered_lines terms_line k xs ++ more)) after
    ∙ terms_taken n names (done ++ x ∷ []) xs more kept few small (all ∙ sym (append_assoc done (x ∷ []) xs)) h.1

-- ALL NAMES

texts_begin : (xs : List Login) (more : List (List ℕ)) → begins 6 more ≡ true → begins 5 (numbered_lines text_line 1 xs ++ more) ≡ true
texts_begin [] more h = later 5 6 more (omega arith) h
texts_begin (x ∷ xs) more h = refl

terms_begin : (xs : List TermsName) (more : List (List ℕ)) → begins 5 more ≡ true → begins 4 (numbered_lines terms_line 1 xs ++ more) ≡ true
terms_begin [] more h = later 4 5 more (omega arith) h
terms_begin (x ∷ xs) more h = refl

pub spaces_begin : (xs : List ProtectionSpace) (more : List (List ℕ)) → begins 4 more ≡ true → begins 3 (numbered_lines space_line 1 xs ++ more) ≡ true
spaces_begin [] more h = later 3 4 more (omega arith) h
spaces_begin (x ∷ xs) more h = refl

pub names_begin : (names : Tables) (more : List (List ℕ)) → begins 6 more ≡ true
    → begins 3 (numbered_lines space_line 1 names.spaces ++ (numbered_lines terms_line 1 names.terms ++ (numbered_lines text_line 1 names.texts ++ more))) ≡ true
names_begin names more h = spaces_begin names.spaces _ (terms_begin names.terms _ (texts_begin names.texts more h))

abbrev behind_terms : ℕ → Tables × List (List ℕ) → Tables × List (List ℕ)
behind_terms n got = taken (text_step n) got.0 got.1

abbrev behind_spaces : ℕ → Tables × List (List ℕ) → Tables × List (List ℕ)
behind_spaces n got = behind_terms n (taken (terms_step n) got.0 got.1)

all_nonces : (names : Tables) → AreNames names → before names names.terms ≡ record { spaces = names.spaces; terms = names.terms; nonces = names.nonces; texts = [] }
all_nonces names kept =
    let used = kept.used in
    tables_by names names.terms (take (top names.terms) names.nonces) names.nonces (take_all (top names.terms) names.nonces (omega (arith, used)))

pub names_again : (n : ℕ) (names : Tables) (more : List (List ℕ)) → AreNames names → AreFew n names → n ≤ 2048 → Each SpaceHolds names.spaces → Each TermsHolds names.terms
    → Each TextHolds names.texts → begins 6 more ≡ true
    → names_front n (numbered_lines space_line 1 names.spaces ++ (numbered_lines terms_line 1 names.terms ++ (numbered_lines text_line 1 names.texts ++ more))) ≡ (names, more)
names_again n names more kept few small spaces terms texts behind =
    let l2 : List (List ℕ) = numbered_lines text_line 1 names.texts ++ more in
    let l1 : List (List ℕ) = numbered_lines terms_line 1 names.terms ++ l2 in
    let spaces_few = few.spaces in
    let texts_few = few.texts in
    let untexted : Tables = record { spaces = names.spaces; terms = names.terms; nonces = names.nonces; texts = [] } in
    let first : taken (space_step n) no_names (numbered_lines space_line 1 names.spaces ++ l1) ≡ (before names [], l1) =
    spaces_taken n no_names names.spaces l1 spaces kept.spaces (omega (arith, spaces_few)) small
    ∙ taken_stop (space_step n) (before names []) l1 (space_stops n (before names []) l1 (terms_begin names.terms l2 (texts_begin names.texts more behind))) in
    let second : taken (terms_step n) (before names []) l1 ≡ (untexted, l2) =
    terms_taken n names [] names.terms l2 kept few small refl terms
    ∙ taken_stop (terms_step n) (before names names.terms) l2 (terms_stops n (before names names.terms) l2 (texts_begin names.texts more behind))
    ∙ ap (λ (s : Tables). (s, l2)) (all_nonces names kept) in
    let third : taken (text_step n) untexted l2 ≡ (names, more) =
    texts_taken n untexted names.texts more texts (omega (arith, texts_few)) small
    ∙ taken_stop (text_step n) names more (text_stops n names more behind) in
    ap (behind_spaces n) first ∙ ap (behind_terms n) second ∙ third
