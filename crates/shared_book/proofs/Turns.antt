-- What a caller finds in its turn, and what it keeps after it.
use Rattle.std.proofs.Common.{◌≡◌, ℕ, ◌+◌, ◌*◌, ◌^◌, ◌<◌, ◌≤◌, List, [], ◌∷◌, ◌++◌, length, drop, ap, sym, subst, ◌∙◌, arith, append_assoc, inl, Some}
use Rattle.std.specs.Prelude.{All, IsTrue, is_some, Result, Ok, Err, OnOk, OnErr}
use mathlib.Core.List.{IsPrefix}
use Rattle.std.proofs.lemmas.List.{append-nil}
use Rattle.std.proofs.lemmas.List.Prefix.{front_rest}
use Rattle.spaces.specs.declared.roster.Roster.{Roster}
use Rattle.nonce_words.specs.declared.draw.NonceDraw.{NonceDraw}
use Rattle.nonce_words.specs.Views.{DrawView, epoch_at}
use Rattle.turnstile.specs.Names.{name_of}
use Rattle.turnstile.specs.Passes.{IsIn, PassView, added}
use Rattle.atomic_table.specs.Seated.{TableId}
use Rattle.auth_events.specs.declared.journal.Call.{Call}
use Rattle.auth_events.specs.declared.told.Told.{Told}
use Rattle.auth_events.specs.Tables.{Tables, AreFew}
use Rattle.auth_events.specs.Book.{IsLegal, IsLegalPast, allowed, epoch}
use Rattle.auth_events.specs.Told.{has_no_draw, journal, names_told, past}
use Rattle.book_laws.specs.Owners.{AddsOwn, HasSeen, IsOwned, items_of, maker, owner}
use Rattle.book_laws.specs.Shares.{IsNamedBy, IsWithinShares}
use Rattle.book_laws.proofs.Lifting.{lifted, past_legal}
use Rattle.book_laws.proofs.Sharing.{added_own, mine_grown}
use Rattle.shared_book.specs.declared.locked.Fixed.{Fixed}
use Rattle.shared_book.specs.Callers.{CallerView, IsBookOf, IsCaller, IsCallerOf, SharedView, fixed_of}
use Rattle.shared_book.specs.Turns.{IsInformed}

pub some_same : {A : Type 0} (x y : A) → Some x ≡ Some y → x ≡ y
some_same x y e = cc e

pub prefix-trans : (a b c : List Told) → IsPrefix a b → IsPrefix b c → IsPrefix a c
prefix-trans a b c p q = (p.0 ++ q.0, sym (append_assoc a p.0 q.0) ∙ (ap (λ (l : List Told). l ++ q.0) p.1 ∙ q.1))

-- THE BOOK THAT A CALLER FINDS

abbrev pub view_of : ℕ → PassView Told Fixed → DrawView → CallerView
view_of number p d = record { number = number; seen = p.seen; mine = p.mine; quota = d.quota; drawn = d.drawn; fixed = p.fixed; history = p.history; turns = p.turns; words = d.table }

pub book_found : (s : SharedView) (v : CallerView) (number : ℕ) (p : PassView Told Fixed) (d : DrawView) → IsCaller number p d → view_of number p d ≡ v → IsCallerOf s v
    → (roster : Roster) (callers : ℕ) (words : TableId) (told : List Told) → IsIn maker told p → p.fixed ≡ Some (record { roster = roster; callers = callers; words = name_of words }) → IsOwned callers told → IsWithinShares told
    → IsBookOf s v roster told
book_found s v number p d keeps view of roster callers words told known fixed owned within =
    let mine : fixed_of s ≡ record { roster = roster; callers = callers; words = name_of words } = some_same _ _ (sym of.fixed ∙ (sym (ap (λ (x : CallerView). x.fixed) view) ∙ fixed)) in
    let whole : p.fixed ≡ Some (fixed_of s) = ap (λ (x : CallerView). x.fixed) view ∙ of.fixed in
    subst (λ (x : CallerView). IsBookOf s x roster told) view
    (record {
      roster_is = ap (λ (f : Fixed). f.roster) (sym mine);
      owned = subst (λ k. IsOwned k told) (ap (λ (f : Fixed). f.callers) (sym mine)) owned;
      within = within;
      seen = record { kept = known.0; own = ap (λ k. items_of k told) (sym keeps.numbered) ∙ (sym known.1 ∙ keeps.own) };
      mine = known.1 ∙ ap (λ k. items_of k told) keeps.numbered;
      number = keeps.within (fixed_of s) whole;
      legal = keeps.legal (fixed_of s) whole;
    })

-- what the caller was allowed by what it has seen is allowed by all that was told
pub allowed_now : (s : SharedView) (v : CallerView) (roster : Roster) (names : Tables) (told : List Told) (r : ℕ) (call : Call) → IsBookOf s v roster told → IsTrue (has_no_draw told) → IsLegal roster names (journal told) → names_told told ≡ names → v.number ≡ owner s.callers r
    → IsTrue (allowed s.roster (names_told v.seen) (past v.seen) v.number r call) → IsTrue (allowed roster names (past told) v.number r call)
allowed_now s v roster names told r call found none legal named is may =
    let whole : v.seen ++ found.seen.kept.0 ≡ told = found.seen.kept.1 in
    let legal' = subst (λ (n : Tables). IsLegalPast roster n (past told)) (sym named) (past_legal roster names told none legal) in
    let all = lifted roster s.callers v.seen found.seen.kept.0 r call
    (subst (λ (l : List Told). IsLegalPast roster (names_told l) (past l)) (sym whole) legal')
    (subst (IsOwned s.callers) (sym whole) found.owned)
    (subst (λ (l : List Told). items_of (owner s.callers r) l ≡ items_of (owner s.callers r) v.seen) (sym whole) (subst (λ k. items_of k told ≡ items_of k v.seen) is found.seen.own))
    (subst (λ (f : Roster). IsTrue (allowed f (names_told v.seen) (past v.seen) (owner s.callers r) r call)) (sym found.roster_is) (subst (λ k. IsTrue (allowed s.roster (names_told v.seen) (past v.seen) k r call)) is may)) in
    let here = subst (λ (l : List Told). IsTrue (allowed roster (names_told l) (past l) (owner s.callers r) r call)) whole all in
    subst (λ k. IsTrue (allowed roster names (past told) k r call)) (sym is) (subst (λ (n : Tables). IsTrue (allowed roster n (past told) (owner s.callers r) r call)) named here)

-- WHAT IT KEEPS

module _ (number : ℕ) (p inside after : PassView Told Fixed) (told more : List Told) (known : IsIn maker told p) (numbered : p.number ≡ number) (seen_is : inside.seen ≡ told) (mine_is : inside.mine ≡ p.mine) (number_is : inside.number ≡ p.number) (adds : AddsOwn number told more) where
  -- what the turnstile asks of the turn
  pub turn_kept : IsPrefix inside.seen more
  turn_kept = (adds.items, ap (λ (l : List Told). l ++ adds.items) seen_is ∙ adds.grows)

  pub turn_own : All (λ item. maker item ≡ inside.number) (added inside.seen more)
  turn_own =
      subst (λ (l : List Told). All (λ item. maker item ≡ inside.number) (drop (length l) more)) (sym seen_is)
      (subst (λ k. All (λ item. maker item ≡ k) (drop (length told) more)) (sym (number_is ∙ numbered)) (added_own number told more adds))

  -- the caller's own items grow by what it told
  pub turn_mine : after.mine ≡ inside.mine ++ added inside.seen more → after.mine ≡ p.mine ++ adds.items
  turn_mine left =
      left
      ∙ (ap (λ (l : List Told). inside.mine ++ drop (length l) more) seen_is
      ∙ (ap (λ (l : List Told). l ++ drop (length told) more) mine_is ∙ ap (λ (l : List Told). p.mine ++ l) (front_rest more told adds.items (sym adds.grows))))

  pub turn_items : after.mine ≡ inside.mine ++ added inside.seen more → after.mine ≡ items_of number more
  turn_items left =
      left
      ∙ (ap (λ (l : List Told). inside.mine ++ drop (length l) more) seen_is
      ∙ (ap (λ (l : List Told). l ++ drop (length told) more) (mine_is ∙ (known.1 ∙ ap (λ k. items_of k told) numbered)) ∙ mine_grown number told more adds))

-- what a caller keeps after a turn
pub caller_kept : (number : ℕ) (p after : PassView Told Fixed) (d e : DrawView) (s : SharedView) (roster : Roster) (names : Tables) (more : List Told) → IsCaller number p d → p.fixed ≡ Some (fixed_of s) → roster ≡ s.roster → after.number ≡ p.number → after.fixed ≡ p.fixed → after.seen ≡ more → after.mine ≡ items_of number more
    → ((n : ℕ) → 0 < n → epoch names (past more) n ≤ epoch_at e.known n) → IsInformed d e → names_told more ≡ names → IsLegal roster names (journal more) → AreFew (length roster.requests) names
    → IsCaller number after e
caller_kept number p after d e s roster names more keeps whole is number_is fixed_is seen mine knows informed named legal few = record {
  numbered = number_is ∙ keeps.numbered;
  own = mine ∙ ap (items_of number) (sym seen);
  within = λ h same. keeps.within h (sym fixed_is ∙ same);
  knows = λ n some. subst (λ (l : List Told). epoch (names_told l) (past l) n ≤ epoch_at e.known n) (sym seen) (subst (λ (t : Tables). epoch t (past more) n ≤ epoch_at e.known n) (sym named) (knows n some));
  share = omega (arith, keeps.share, informed.1, ap length informed.2);
  drawn = subst (All (λ (x : NonceDraw). 1 ≤ x.nonce)) (sym informed.2) keeps.drawn;
  legal = λ h same.
      subst (λ (l : List Told). IsLegal h.roster (names_told l) (journal l)) (sym seen)
      (subst (λ (t : Tables). IsLegal h.roster t (journal more)) (sym named) (subst (λ (r : Roster). IsLegal r names (journal more)) (roster_of h same) legal));
  nonces = λ h same.
      subst (λ (l : List Told). length (names_told l).nonces ≤ 16 * length h.roster.requests) (sym seen)
      (subst (λ (t : Tables). length t.nonces ≤ 16 * length h.roster.requests) (sym named) (subst (λ (r : Roster). length names.nonces ≤ 16 * length r.requests) (roster_of h same) few.nonces));
}
  where
    roster_of : (h : Fixed) → after.fixed ≡ Some h → roster ≡ h.roster
    roster_of h same = is ∙ ap (λ (f : Fixed). f.roster) (some_same (fixed_of s) h (sym whole ∙ (sym fixed_is ∙ same)))

pub on-ok : {T E : Type 0} (r : Result T E) (P Q : Type 0) → (P → Q) → OnOk r P → OnOk r Q
on-ok (Ok x) P Q f p = f p
on-ok (Err e) P Q f p = p

pub on-err : {T E : Type 0} (r : Result T E) (P Q : Type 0) → (P → Q) → OnErr r P → OnErr r Q
on-err (Ok x) P Q f p = p
on-err (Err e) P Q f p = f p

-- what a list adds to itself
pub adds_of : (told more news : List Told) (number : ℕ) (adds : AddsOwn number told more) → more ≡ told ++ news → adds.items ≡ news
adds_of told more news number adds is = sym (front_rest more told adds.items (sym adds.grows)) ∙ front_rest more told news is

-- a naming that was done, or not
pub named_or_not : {T E : Type 0} (number : ℕ) (told more done : List Told) (r : Result T E) → IsNamedBy number told done → OnOk r (more ≡ done) → OnErr r (more ≡ told) → IsNamedBy number told more
named_or_not number told more done (Ok x) named ok err = subst (IsNamedBy number told) (sym ok) named
named_or_not number told more done (Err e) named ok err = inl err
