-- Notes with their places: what an added or a dropped directory does to each space's.
use Rattle.std.proofs.Common.{◌≡◌, ℕ, suc, ◌<◌, Bool, true, false, not, ◌&&◌, ◌||◌, cond, get_or, List, [], ◌∷◌, ◌++◌, length, drop, refl, ap, sym, subst, ◌∙◌, arith}
use Rattle.std.specs.Prelude.{All, AllPairs, filter, map, count_by, ◌==◌, nat_lt}
use Rattle.std.specs.List.{list_any}
use Rattle.std.proofs.lemmas.Bool.{false≢true}
use Rattle.std.proofs.lemmas.List.Elements.{All-nil, All-cons, All-head, All-tail, All-push, All-filter}
use Rattle.std.proofs.lemmas.List.Kept.{AllPairs-cons, AllPairs-filter}
use Rattle.std.proofs.lemmas.List.Quantifiers.{all_pairs_push}
use Rattle.std.proofs.lemmas.List.Sums.{sum_by-cons}
use Rattle.spaces.specs.Paths.{covers}
use Rattle.spaces.specs.declared.roster.Roster.{Roster}
use Rattle.auth_events.proofs.Same.{number_same, number_refl}
use Rattle.auth_events.specs.Book.{NotedDir, with_dir, with_room as dirs_with_room}
use Rattle.path_lookup.specs.declared.index.Note.{Note}
use Rattle.path_lookup.specs.Notes.{added, covers_it, dir_at, drop_first, is_covered, is_of, with_room}
use Rattle.path_lookup.specs.Histories.{Placed, dirs_in, noted_dir}

abbrev pub notes_of : List Placed → List Note
notes_of placed = map (λ one. one.note) placed

abbrev pub is_at : ℕ → Placed → Bool
is_at s one = one.note.space == s

-- DROPPED DIRECTORIES

abbrev pub drop_placed : ℕ → List Placed → List Placed
drop_placed s [] = []
drop_placed s (one ∷ placed) = cond (is_at s one) placed (one ∷ drop_placed s placed)

abbrev pub roomy : ℕ → List Placed → List Placed
roomy s placed = cond (nat_lt (count_by (is_of s) (notes_of placed)) 10) placed (drop_placed s placed)

notes_filtered : (p : Note → Bool) (placed : List Placed) → notes_of (filter (λ one. p one.note) placed) ≡ filter p (notes_of placed)
notes_filtered p [] = refl
notes_filtered p (one ∷ placed) = at (p one.note) (notes_filtered p placed)
  where
    at : (b : Bool) → notes_of (filter (λ o. p o.note) placed) ≡ filter p (notes_of placed) → notes_of (cond b (one ∷ filter (λ o. p o.note) placed) (filter (λ o. p o.note) placed)) ≡ cond b (one.note ∷ filter p (notes_of placed)) (filter p (notes_of placed))
    at true before = ap (λ ns. one.note ∷ ns) before
    at false before = before

notes_dropped : (s : ℕ) (placed : List Placed) → notes_of (drop_placed s placed) ≡ drop_first s (notes_of placed)
notes_dropped s [] = refl
notes_dropped s (one ∷ placed) = at (one.note.space == s) (notes_dropped s placed)
  where
    at : (b : Bool) → notes_of (drop_placed s placed) ≡ drop_first s (notes_of placed) → notes_of (cond b placed (one ∷ drop_placed s placed)) ≡ cond b (notes_of placed) (one.note ∷ drop_first s (notes_of placed))
    at true before = refl
    at false before = ap (λ ns. one.note ∷ ns) before

notes_roomy : (s : ℕ) (placed : List Placed) → notes_of (roomy s placed) ≡ with_room s (notes_of placed)
notes_roomy s placed = at (nat_lt (count_by (is_of s) (notes_of placed)) 10)
  where
    at : (b : Bool) → notes_of (cond b placed (drop_placed s placed)) ≡ cond b (notes_of placed) (drop_first s (notes_of placed))
    at true = refl
    at false = notes_dropped s placed

notes_pushed : (placed : List Placed) (one : Placed) → notes_of (placed ++ one ∷ []) ≡ notes_of placed ++ one.note ∷ []
notes_pushed [] one = refl
notes_pushed (other ∷ placed) one = ap (λ ns. other.note ∷ ns) (notes_pushed placed one)

-- THE DIRECTORIES OF ONE SPACE

module _ (roster : Roster) where
  abbrev dirs_at : ℕ → List Placed → List NotedDir
  dirs_at s placed = dirs_in roster s placed

  cons_at : (s : ℕ) (one : Placed) (placed : List Placed) → is_at s one ≡ true → dirs_at s (one ∷ placed) ≡ noted_dir roster one ∷ dirs_at s placed
  cons_at s one placed is = ap (λ b. map (noted_dir roster) (cond b (one ∷ filter (is_at s) placed) (filter (is_at s) placed))) is

  cons_other : (s : ℕ) (one : Placed) (placed : List Placed) → is_at s one ≡ false → dirs_at s (one ∷ placed) ≡ dirs_at s placed
  cons_other s one placed other = ap (λ b. map (noted_dir roster) (cond b (one ∷ filter (is_at s) placed) (filter (is_at s) placed))) other

  -- as many notes as directories
  pub as_many : (s : ℕ) (placed : List Placed) → length (dirs_at s placed) ≡ count_by (is_of s) (notes_of placed)
  as_many s [] = refl
  as_many s (one ∷ placed) = at (is_at s one) refl (as_many s placed)
    where
      at : (b : Bool) → is_at s one ≡ b → length (dirs_at s placed) ≡ count_by (is_of s) (notes_of placed) → length (dirs_at s (one ∷ placed)) ≡ count_by (is_of s) (one.note ∷ notes_of placed)
      at true is before = omega (arith, ap length (cons_at s one placed is), before, sum_by-cons (λ n. cond (n.space == s) 1 0) one.note (notes_of placed), ap (λ b. cond {A = ℕ} b 1 0) is)
      at false is before = omega (arith, ap length (cons_other s one placed is), before, sum_by-cons (λ n. cond (n.space == s) 1 0) one.note (notes_of placed), ap (λ b. cond {A = ℕ} b 1 0) is)

  -- each note's space has a directory
  pub own_dirs : (placed : List Placed) → All (λ one. 0 < length (dirs_at one.note.space placed)) placed
  own_dirs [] = All-nil (λ one. 0 < length (dirs_at one.note.space []))
  own_dirs (x ∷ placed) =
      All-cons (λ one. 0 < length (dirs_at one.note.space (x ∷ placed))) x placed
      (omega (arith, ap length (cons_at x.note.space x placed (number_refl x.note.space))))
      (λ k d within. more (get_or placed k d).note.space (own_dirs placed k d within))
    where
      more : (s : ℕ) → 0 < length (dirs_at s placed) → 0 < length (dirs_at s (x ∷ placed))
      more s some = at (is_at s x) refl
        where
          at : (b : Bool) → is_at s x ≡ b → 0 < length (dirs_at s (x ∷ placed))
          at true is = omega (arith, ap length (cons_at s x placed is))
          at false is = omega (arith, ap length (cons_other s x placed is), some)

  dropped_here : (s : ℕ) (placed : List Placed) → dirs_at s (drop_placed s placed) ≡ drop 1 (dirs_at s placed)
  dropped_here s [] = refl
  dropped_here s (one ∷ placed) = at (is_at s one) refl (dropped_here s placed)
    where
      at : (b : Bool) → is_at s one ≡ b → dirs_at s (drop_placed s placed) ≡ drop 1 (dirs_at s placed) → dirs_at s (cond b placed (one ∷ drop_placed s placed)) ≡ drop 1 (dirs_at s (one ∷ placed))
      at true is before = sym (ap (drop 1) (cons_at s one placed is))
      at false is before =
          cons_other s one (drop_placed s placed) is ∙ (before ∙ sym (ap (drop 1) (cons_other s one placed is)))

  dropped_there : (u s : ℕ) (placed : List Placed) → (u == s) ≡ false → dirs_at s (drop_placed u placed) ≡ dirs_at s placed
  dropped_there u s [] other = refl
  dropped_there u s (one ∷ placed) other = at (is_at u one) refl (is_at s one) refl (dropped_there u s placed other)
    where
      at : (a : Bool) → is_at u one ≡ a → (b : Bool) → is_at s one ≡ b → dirs_at s (drop_placed u placed) ≡ dirs_at s placed → dirs_at s (cond a placed (one ∷ drop_placed u placed)) ≡ dirs_at s (one ∷ placed)
      at true is true is_s before =
          absurd (false≢true (sym other ∙ subst (λ n. (n == s) ≡ true) (number_same one.note.space u is) is_s))
      at true is false is_s before = sym (cons_other s one placed is_s)
      at false is true is_s before =
          cons_at s one (drop_placed u placed) is_s ∙ (ap (λ ds. noted_dir roster one ∷ ds) before ∙ sym (cons_at s one placed is_s))
      at false is false is_s before = cons_other s one (drop_placed u placed) is_s ∙ (before ∙ sym (cons_other s one placed is_s))

  roomy_here : (s : ℕ) (placed : List Placed) → dirs_at s (roomy s placed) ≡ dirs_with_room (dirs_at s placed)
  roomy_here s placed =
      at (nat_lt (count_by (is_of s) (notes_of placed)) 10) ∙ ap (λ n. cond (nat_lt n 10) (dirs_at s placed) (drop 1 (dirs_at s placed))) (sym (as_many s placed))
    where
      at : (b : Bool) → dirs_at s (cond b placed (drop_placed s placed)) ≡ cond b (dirs_at s placed) (drop 1 (dirs_at s placed))
      at true = refl
      at false = dropped_here s placed

  roomy_there : (u s : ℕ) (placed : List Placed) → (u == s) ≡ false → dirs_at s (roomy u placed) ≡ dirs_at s placed
  roomy_there u s placed other = at (nat_lt (count_by (is_of u) (notes_of placed)) 10)
    where
      at : (b : Bool) → dirs_at s (cond b placed (drop_placed u placed)) ≡ dirs_at s placed
      at true = refl
      at false = dropped_there u s placed other

  -- what covers is removed
  module _ (note : Note) where
    abbrev u : ℕ
    u = note.space

    abbrev dir : List ℕ
    dir = dir_at roster note

    abbrev keeps : Placed → Bool
    keeps one = not (covers_it roster note one.note)

    kept_here : (placed : List Placed) → dirs_at u (filter keeps placed) ≡ filter (λ held. not (covers dir held.dir)) (dirs_at u placed)
    kept_here [] = refl
    kept_here (one ∷ placed) = at (is_at u one) refl (covers dir (dir_at roster one.note)) refl (kept_here placed)
      where
        rest : List Placed
        rest = filter keeps placed

        ds : List NotedDir
        ds = dirs_at u placed

        at : (a : Bool) → is_at u one ≡ a → (b : Bool) → covers dir (dir_at roster one.note) ≡ b → dirs_at u rest ≡ filter (λ held. not (covers dir held.dir)) ds → dirs_at u (cond (not (a && b)) (one ∷ rest) rest) ≡ filter (λ held. not (covers dir held.dir)) (dirs_at u (one ∷ placed))
        at true is true covered before =
            before
            ∙ (sym (ap (λ b. cond (not b) (noted_dir roster one ∷ filter (λ held. not (covers dir held.dir)) ds) (filter (λ held. not (covers dir held.dir)) ds)) covered)
            ∙ sym (ap (filter (λ held. not (covers dir held.dir))) (cons_at u one placed is)))
        at true is false covered before =
            cons_at u one rest is
            ∙ (ap (λ xs. noted_dir roster one ∷ xs) before
            ∙ (sym (ap (λ b. cond (not b) (noted_dir roster one ∷ filter (λ held. not (covers dir held.dir)) ds) (filter (λ held. not (covers dir held.dir)) ds)) covered)
            ∙ sym (ap (filter (λ held. not (covers dir held.dir))) (cons_at u one placed is))))
        at false is b covered before =
            cons_other u one rest is ∙ (before ∙ sym (ap (filter (λ held. not (covers dir held.dir))) (cons_other u one placed is)))

    kept_there : (s : ℕ) (placed : List Placed) → (u == s) ≡ false → dirs_at s (filter keeps placed) ≡ dirs_at s placed
    kept_there s [] other = refl
    kept_there s (one ∷ placed) other = at (is_at u one) refl (covers dir (dir_at roster one.note)) (is_at s one) refl (kept_there s placed other)
      where
        at : (a : Bool) → is_at u one ≡ a → (b c : Bool) → is_at s one ≡ c → dirs_at s (filter keeps placed) ≡ dirs_at s placed → dirs_at s (cond (not (a && b)) (one ∷ filter keeps placed) (filter keeps placed)) ≡ dirs_at s (one ∷ placed)
        at a is b true is_s before = of a is b
          where
            kept : dirs_at s (one ∷ filter keeps placed) ≡ dirs_at s (one ∷ placed)
            kept = cons_at s one (filter keeps placed) is_s ∙ (ap (λ ds. noted_dir roster one ∷ ds) before ∙ sym (cons_at s one placed is_s))

            of : (a : Bool) → is_at u one ≡ a → (b : Bool) → dirs_at s (cond (not (a && b)) (one ∷ filter keeps placed) (filter keeps placed)) ≡ dirs_at s (one ∷ placed)
            of true is' b' = absurd (false≢true (sym other ∙ subst (λ n. (n == s) ≡ true) (number_same one.note.space u is') is_s))
            of false is' b' = kept
        at a is b false is_s before = of (not (a && b))
          where
            of : (b : Bool) → dirs_at s (cond b (one ∷ filter keeps placed) (filter keeps placed)) ≡ dirs_at s (one ∷ placed)
            of true = cons_other s one (filter keeps placed) is_s ∙ (before ∙ sym (cons_other s one placed is_s))
            of false = before ∙ sym (cons_other s one placed is_s)

    covered_here : (placed : List Placed) → is_covered roster note (notes_of placed) ≡ list_any (λ held. covers held.dir dir) (dirs_at u placed)
    covered_here [] = refl
    covered_here (one ∷ placed) = at (is_at u one) refl (covered_here placed)
      where
        any : List Placed → Bool
        any ps = is_covered roster note (notes_of ps)

        at : (a : Bool) → is_at u one ≡ a → any placed ≡ list_any (λ held. covers held.dir dir) (dirs_at u placed) → (a && covers (dir_at roster one.note) dir || any placed) ≡ list_any (λ held. covers held.dir dir) (dirs_at u (one ∷ placed))
        at true is before =
            ap (λ b. covers (dir_at roster one.note) dir || b) before ∙ sym (ap (list_any (λ held. covers held.dir dir)) (cons_at u one placed is))
        at false is before = before ∙ sym (ap (list_any (λ held. covers held.dir dir)) (cons_other u one placed is))

    -- with a directory more
    abbrev pub put : ℕ → List Placed → List Placed
    put place placed =
        cond (is_covered roster note (notes_of placed)) placed (roomy u (filter keeps placed) ++ record { note = note; place = place } ∷ [])

    pub put_notes : (place : ℕ) (placed : List Placed) → notes_of (put place placed) ≡ added roster note (notes_of placed)
    put_notes place placed = at (is_covered roster note (notes_of placed))
      where
        at : (b : Bool) → notes_of (cond b placed (roomy u (filter keeps placed) ++ record { note = note; place = place } ∷ [])) ≡ cond b (notes_of placed) (with_room u (filter (λ held. not (covers_it roster note held)) (notes_of placed)) ++ note ∷ [])
        at true = refl
        at false =
            notes_pushed (roomy u (filter keeps placed)) (record { note = note; place = place })
            ∙ ap (λ ns. ns ++ note ∷ []) (notes_roomy u (filter keeps placed) ∙ ap (with_room u) (notes_filtered (λ held. not (covers_it roster note held)) placed))

    pushed_here : (place : ℕ) (placed : List Placed) → dirs_at u (placed ++ record { note = note; place = place } ∷ []) ≡ dirs_at u placed ++ record { dir = dir; place = place } ∷ []
    pushed_here place [] = cons_at u (record { note = note; place = place }) [] (number_refl u)
    pushed_here place (one ∷ placed) = at (is_at u one) refl (pushed_here place placed)
      where
        new : List Placed
        new = record { note = note; place = place } ∷ []

        at : (b : Bool) → is_at u one ≡ b → dirs_at u (placed ++ new) ≡ dirs_at u placed ++ record { dir = dir; place = place } ∷ [] → dirs_at u (one ∷ (placed ++ new)) ≡ dirs_at u (one ∷ placed) ++ record { dir = dir; place = place } ∷ []
        at true is before =
            cons_at u one (placed ++ new) is
            ∙ (ap (λ ds. noted_dir roster one ∷ ds) before ∙ sym (ap (λ ds. ds ++ record { dir = dir; place = place } ∷ []) (cons_at u one placed is)))
        at false is before =
            cons_other u one (placed ++ new) is ∙ (before ∙ sym (ap (λ ds. ds ++ record { dir = dir; place = place } ∷ []) (cons_other u one placed is)))

    pushed_there : (place s : ℕ) (placed : List Placed) → (u == s) ≡ false → dirs_at s (placed ++ record { note = note; place = place } ∷ []) ≡ dirs_at s placed
    pushed_there place s [] other = cons_other s (record { note = note; place = place }) [] other
    pushed_there place s (one ∷ placed) other = at (is_at s one) (pushed_there place s placed other)
      where
        new : List Placed
        new = record { note = note; place = place } ∷ []

        at : (b : Bool) → dirs_at s (placed ++ new) ≡ dirs_at s placed → map (noted_dir roster) (cond b (one ∷ filter (is_at s) (placed ++ new)) (filter (is_at s) (placed ++ new))) ≡ map (noted_dir roster) (cond b (one ∷ filter (is_at s) placed) (filter (is_at s) placed))
        at true before = ap (λ ds. noted_dir roster one ∷ ds) before
        at false before = before

    pub put_here : (place : ℕ) (placed : List Placed) → dirs_at u (put place placed) ≡ with_dir (record { dir = dir; place = place }) (dirs_at u placed)
    put_here place placed = at (is_covered roster note (notes_of placed)) ∙ ap (λ b. cond b (dirs_at u placed) (dirs_with_room (filter (λ held. not (covers dir held.dir)) (dirs_at u placed)) ++ record { dir = dir; place = place } ∷ [])) (covered_here placed)
      where
        at : (b : Bool) → dirs_at u (cond b placed (roomy u (filter keeps placed) ++ record { note = note; place = place } ∷ [])) ≡ cond b (dirs_at u placed) (dirs_with_room (filter (λ held. not (covers dir held.dir)) (dirs_at u placed)) ++ record { dir = dir; place = place } ∷ [])
        at true = refl
        at false =
            pushed_here place (roomy u (filter keeps placed))
            ∙ ap (λ ds. ds ++ record { dir = dir; place = place } ∷ []) (roomy_here u (filter keeps placed) ∙ ap dirs_with_room (kept_here placed))

    pub put_there : (place s : ℕ) (placed : List Placed) → (u == s) ≡ false → dirs_at s (put place placed) ≡ dirs_at s placed
    put_there place s placed other = at (is_covered roster note (notes_of placed))
      where
        at : (b : Bool) → dirs_at s (cond b placed (roomy u (filter keeps placed) ++ record { note = note; place = place } ∷ [])) ≡ dirs_at s placed
        at true = refl
        at false =
            pushed_there place s (roomy u (filter keeps placed)) other
            ∙ (roomy_there u s (filter keeps placed) other ∙ kept_there s placed other)

  -- a space dropped
  pub gone_here : (s : ℕ) (placed : List Placed) → dirs_at s (filter (λ one. not (one.note.space == s)) placed) ≡ []
  gone_here s [] = refl
  gone_here s (one ∷ placed) = at (is_at s one) refl (gone_here s placed)
    where
      rest : List Placed
      rest = filter (λ o. not (o.note.space == s)) placed

      at : (b : Bool) → is_at s one ≡ b → dirs_at s rest ≡ [] → dirs_at s (cond (not b) (one ∷ rest) rest) ≡ []
      at true is before = before
      at false is before = cons_other s one rest is ∙ before

  pub gone_there : (u s : ℕ) (placed : List Placed) → (u == s) ≡ false → dirs_at s (filter (λ one. not (one.note.space == u)) placed) ≡ dirs_at s placed
  gone_there u s [] other = refl
  gone_there u s (one ∷ placed) other = at (is_at u one) refl (is_at s one) refl (gone_there u s placed other)
    where
      rest : List Placed
      rest = filter (λ o. not (o.note.space == u)) placed

      at : (a : Bool) → is_at u one ≡ a → (b : Bool) → is_at s one ≡ b → dirs_at s rest ≡ dirs_at s placed → dirs_at s (cond (not a) (one ∷ rest) rest) ≡ dirs_at s (one ∷ placed)
      at true is true is_s before =
          absurd (false≢true (sym other ∙ subst (λ n. (n == s) ≡ true) (number_same one.note.space u is) is_s))
      at true is false is_s before = before ∙ sym (cons_other s one placed is_s)
      at false is true is_s before =
          cons_at s one rest is_s ∙ (ap (λ ds. noted_dir roster one ∷ ds) before ∙ sym (cons_at s one placed is_s))
      at false is false is_s before = cons_other s one rest is_s ∙ (before ∙ sym (cons_other s one placed is_s))

-- FACTS OF EACH NOTE, AND THEIR ORDER

pub dropped_all : (P : Placed → Type 0) (s : ℕ) (placed : List Placed) → All P placed → All P (drop_placed s placed)
dropped_all P s [] all = all
dropped_all P s (one ∷ placed) all =
    at (is_at s one) (All-head P one placed all) (All-tail P one placed all) (dropped_all P s placed (All-tail P one placed all))
  where
    at : (b : Bool) → P one → All P placed → All P (drop_placed s placed) → All P (cond b placed (one ∷ drop_placed s placed))
    at true here rest before = rest
    at false here rest before = All-cons P one (drop_placed s placed) here before

pairs_first : (R : Placed → Placed → Type 0) (one : Placed) (placed : List Placed) → AllPairs R (one ∷ placed) → All (R one) placed
pairs_first R one placed pairs = λ j d within. pairs 0 (suc j) d (omega arith) (omega arith)

pairs_rest : (R : Placed → Placed → Type 0) (one : Placed) (placed : List Placed) → AllPairs R (one ∷ placed) → AllPairs R placed
pairs_rest R one placed pairs = λ i j d before within. pairs (suc i) (suc j) d (omega arith) (omega arith)

pub dropped_pairs : (R : Placed → Placed → Type 0) (s : ℕ) (placed : List Placed) → AllPairs R placed → AllPairs R (drop_placed s placed)
dropped_pairs R s [] pairs = pairs
dropped_pairs R s (one ∷ placed) pairs =
    at (is_at s one) (pairs_first R one placed pairs) (pairs_rest R one placed pairs) (dropped_pairs R s placed (pairs_rest R one placed pairs))
  where
    at : (b : Bool) → All (R one) placed → AllPairs R placed → AllPairs R (drop_placed s placed) → AllPairs R (cond b placed (one ∷ drop_placed s placed))
    at true first rest before = rest
    at false first rest before = AllPairs-cons R one (drop_placed s placed) (dropped_all (R one) s placed first) before

module _ (roster : Roster) (note : Note) (place : ℕ) (placed : List Placed) where
  abbrev new : Placed
  new = record { note = note; place = place }

  abbrev left : List Placed
  left = filter (λ one. not (covers_it roster note one.note)) placed

  roomy_all : (P : Placed → Type 0) → All P placed → All P (roomy note.space left)
  roomy_all P all = at (nat_lt (count_by (is_of note.space) (notes_of left)) 10)
    where
      kept : All P left
      kept = All-filter (λ one. not (covers_it roster note one.note)) P placed all

      at : (b : Bool) → All P (cond b left (drop_placed note.space left))
      at true = kept
      at false = dropped_all P note.space left kept

  pub put_all : (P : Placed → Type 0) → All P placed → P new → All P (put roster note place placed)
  put_all P all here = at (is_covered roster note (notes_of placed))
    where
      at : (b : Bool) → All P (cond b placed (roomy note.space left ++ new ∷ []))
      at true = all
      at false = All-push P (roomy note.space left) new (roomy_all P all) here

  pub put_pairs : (R : Placed → Placed → Type 0) → AllPairs R placed → All (λ one. R one new) placed → AllPairs R (put roster note place placed)
  put_pairs R pairs last = at (is_covered roster note (notes_of placed))
    where
      kept : AllPairs R left
      kept = AllPairs-filter R (λ one. not (covers_it roster note one.note)) placed pairs

      of : (b : Bool) → AllPairs R (cond b left (drop_placed note.space left))
      of true = kept
      of false = dropped_pairs R note.space left kept

      at : (b : Bool) → AllPairs R (cond b placed (roomy note.space left ++ new ∷ []))
      at true = pairs
      at false =
          all_pairs_push R (roomy note.space left) new (of (nat_lt (count_by (is_of note.space) (notes_of left)) 10)) (roomy_all (λ one. R one new) last)
