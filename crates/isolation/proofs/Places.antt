-- Directories of one's own spaces are the same in one's own part of the past, at places in the same order.
use Rattle.std.proofs.Common.{◌≡◌, subst, ℕ, Bool, true, false, not, ◌&&◌, ◌||◌, cond, List, [], ◌∷◌, ◌++◌, length, refl, ap, sym, ◌∙◌, Option, Some, None, drop}
use Rattle.std.specs.Prelude.{All, IsTrue, filter, map, fold, nat_lt, option_map, ◌==◌}
use Rattle.std.specs.List.{list_any}
use Rattle.std.proofs.lemmas.Bool.{false≢true}
use Rattle.std.proofs.lemmas.Option.{none-some}
use Rattle.std.proofs.lemmas.List.{drop-map, length-map, map-append}
use Rattle.std.proofs.lemmas.List.Elements.{All-nil, All-cons, All-head, All-tail, All-filter, All-drop, filter_passes}
use Rattle.spaces.specs.Paths.{dir_of, covers}
use Rattle.spaces.specs.declared.roster.Roster.{Roster}
use Rattle.spaces.specs.declared.site.Site.{Site}
use Rattle.auth_events.specs.declared.journal.Entry.{Entry}
use Rattle.auth_events.specs.Tables.{Tables}
use Rattle.auth_events.specs.Past.{live, takes_away, spaces_given}
use Rattle.auth_events.specs.Book.{NotedDir, Found, with_dir, with_room, dirs, notes, is_noted, path_of, target_of, longer, better, best_found, found_in, by_path, is_of_site, scheme_is, is_basic, is_digest}
use Rattle.isolation.specs.Partitions.{renumbered, call_renumbered, reply_renumbered}
use Rattle.isolation.proofs.Parts.{kept, shrink, taken_moved, notes_moved, noted_moved}
use Rattle.isolation.proofs.Rivals.{IsApart, live_shrunk, given_shrunk}

-- the directory at its place in the part
abbrev pub placed : (ℕ → ℕ) → NotedDir → NotedDir
placed g noted = record { dir = noted.dir; place = g noted.place }

abbrev pub found_placed : (ℕ → ℕ) → Found → Found
found_placed g found = record { space = found.space; noted = placed g found.noted }

module _ (g : ℕ → ℕ) where
  any_placed : (p : List ℕ → Bool) (ds : List NotedDir) → list_any (λ (d : NotedDir). p d.dir) (map (placed g) ds) ≡ list_any (λ (d : NotedDir). p d.dir) ds
  any_placed p [] = refl
  any_placed p (d ∷ ds) = ap (λ b. p d.dir || b) (any_placed p ds)

  filter_placed : (p : List ℕ → Bool) (ds : List NotedDir) → filter (λ (d : NotedDir). p d.dir) (map (placed g) ds) ≡ map (placed g) (filter (λ (d : NotedDir). p d.dir) ds)
  filter_placed p [] = refl
  filter_placed p (d ∷ ds) = at (p d.dir) (filter_placed p ds)
    where
      at : (b : Bool) → filter (λ (d : NotedDir). p d.dir) (map (placed g) ds) ≡ map (placed g) (filter (λ (d : NotedDir). p d.dir) ds) → cond b (placed g d ∷ filter (λ (d : NotedDir). p d.dir) (map (placed g) ds)) (filter (λ (d : NotedDir). p d.dir) (map (placed g) ds)) ≡ map (placed g) (cond b (d ∷ filter (λ (d : NotedDir). p d.dir) ds) (filter (λ (d : NotedDir). p d.dir) ds))
      at true before = ap (λ ys. placed g d ∷ ys) before
      at false before = before

  room_placed : (ds : List NotedDir) → with_room (map (placed g) ds) ≡ map (placed g) (with_room ds)
  room_placed ds = ap (λ n. cond (nat_lt n 10) (map (placed g) ds) (drop 1 (map (placed g) ds))) (length-map ds (placed g)) ∙ at (nat_lt (length ds) 10)
    where
      at : (b : Bool) → cond b (map (placed g) ds) (drop 1 (map (placed g) ds)) ≡ map (placed g) (cond b ds (drop 1 ds))
      at true = refl
      at false = drop-map (placed g) 1 ds

  with_placed : (d : NotedDir) (ds : List NotedDir) → with_dir (placed g d) (map (placed g) ds) ≡ map (placed g) (with_dir d ds)
  with_placed d ds =
      ap (λ b. cond b (map (placed g) ds) (with_room (filter (λ (held : NotedDir). not (covers d.dir held.dir)) (map (placed g) ds)) ++ placed g d ∷ [])) (any_placed (λ dir. covers dir d.dir) ds)
      ∙ (ap (λ ys. cond (list_any (λ (held : NotedDir). covers held.dir d.dir) ds) (map (placed g) ds) (with_room ys ++ placed g d ∷ [])) (filter_placed (λ dir. not (covers d.dir dir)) ds)
      ∙ at (list_any (λ (held : NotedDir). covers held.dir d.dir) ds) (filter (λ (held : NotedDir). not (covers d.dir held.dir)) ds))
    where
      at : (b : Bool) (es : List NotedDir) → cond b (map (placed g) ds) (with_room (map (placed g) es) ++ placed g d ∷ []) ≡ map (placed g) (cond b ds (with_room es ++ d ∷ []))
      at true es = refl
      at false es = ap (λ ys. ys ++ placed g d ∷ []) (room_placed es) ∙ sym (map-append (placed g) (with_room es) (d ∷ []))

-- the places of kept entries have new places in the same order
pub record IsPlacing (g : ℕ → ℕ) (P : ℕ → Type 0) : Type 0 where
  pub order : (k l : ℕ) → P k → P l → nat_lt (g k) (g l) ≡ nat_lt k l

module _ (roster : Roster) (names : Tables) (f : ℕ → ℕ) (keep : Entry → Bool) (mine : ℕ → Bool) (g : ℕ → ℕ) (P : ℕ → Type 0) where
  -- each kept entry's place is one of the places, and its new place is the number of kept entries before it
  abbrev pub ArePlaced : List Entry → Type 0
  ArePlaced [] = Unit {0}
  ArePlaced (entry ∷ past) = ArePlaced past × (IsTrue (keep entry) → P (length past) × (g (length past) ≡ length (shrink f keep past)))

  abbrev HasPlace : NotedDir → Type 0
  HasPlace noted = P noted.place

  pub dirs_shrunk : (past : List Entry) → All (IsApart keep mine) past → ArePlaced past → (s : ℕ) → IsTrue (mine s) → dirs roster names (shrink f keep past) s ≡ map (placed g) (dirs roster names past s)
  dirs_shrunk [] all are s own = refl
  dirs_shrunk (entry ∷ past) all are s own = at (keep entry) refl (dirs_shrunk past (All-tail (IsApart keep mine) entry past all) are.0 s own)
    where
      here : List ℕ
      here = dir_of (path_of roster entry.request (target_of names s))

      before' : List NotedDir
      before' = dirs roster names past s

      after_placed : (b c : Bool) (n : ℕ) → n ≡ g (length past) → cond b [] (cond c (with_dir (record { dir = here; place = n }) (map (placed g) before')) (map (placed g) before')) ≡ map (placed g) (cond b [] (cond c (with_dir (record { dir = here; place = length past }) before') before'))
      after_placed true c n is = refl
      after_placed false false n is = refl
      after_placed false true n is = ap (λ k. with_dir (record { dir = here; place = k }) (map (placed g) before')) is ∙ with_placed g (record { dir = here; place = length past }) before'

      at : (b : Bool) → keep entry ≡ b → dirs roster names (shrink f keep past) s ≡ map (placed g) before' → dirs roster names (kept b (renumbered f entry) (shrink f keep past)) s ≡ map (placed g) (dirs roster names (entry ∷ past) s)
      at true is before =
          ap (λ ds. cond (takes_away (renumbered f entry) s) [] (cond (notes (call_renumbered f entry.call) s && is_noted (reply_renumbered f entry.reply)) (with_dir (record { dir = here; place = length (shrink f keep past) }) ds) ds)) before
          ∙ (ap (λ b. cond b [] (cond (notes (call_renumbered f entry.call) s && is_noted (reply_renumbered f entry.reply)) (with_dir (record { dir = here; place = length (shrink f keep past) }) (map (placed g) before')) (map (placed g) before'))) (taken_moved f entry s)
          ∙ (ap (λ b. cond (takes_away entry s) [] (cond (b && is_noted (reply_renumbered f entry.reply)) (with_dir (record { dir = here; place = length (shrink f keep past) }) (map (placed g) before')) (map (placed g) before'))) (notes_moved f entry.call s)
          ∙ (ap (λ b. cond (takes_away entry s) [] (cond (notes entry.call s && b) (with_dir (record { dir = here; place = length (shrink f keep past) }) (map (placed g) before')) (map (placed g) before'))) (noted_moved f entry.reply)
          ∙ after_placed (takes_away entry s) (notes entry.call s && is_noted entry.reply) (length (shrink f keep past)) (sym (are.1 is).1))))
      at false is before =
          let far = (All-head (IsApart keep mine) entry past all).out is s own in
          before
          ∙ sym (ap (λ b. map (placed g) (cond b [] (cond (notes entry.call s && is_noted entry.reply) (with_dir (record { dir = here; place = length past }) before') before'))) far.taken
          ∙ ap (λ b. map (placed g) (cond (b && is_noted entry.reply) (with_dir (record { dir = here; place = length past }) before') before')) far.noted)

  -- all places of directories are places

  all_with : (d : NotedDir) (ds : List NotedDir) → HasPlace d → All HasPlace ds → All HasPlace (with_dir d ds)
  all_with d ds has all = at (list_any (λ (held : NotedDir). covers held.dir d.dir) ds)
    where
      fewer : All HasPlace (filter (λ (held : NotedDir). not (covers d.dir held.dir)) ds)
      fewer = All-filter (λ (held : NotedDir). not (covers d.dir held.dir)) HasPlace ds all

      room : (b : Bool) (es : List NotedDir) → All HasPlace es → All HasPlace (cond b es (drop 1 es))
      room true es all' = all'
      room false es all' = All-drop HasPlace 1 es all'

      push : (es : List NotedDir) → All HasPlace es → All HasPlace (es ++ d ∷ [])
      push [] all' = All-cons HasPlace d [] has (All-nil HasPlace)
      push (e ∷ es) all' = All-cons HasPlace e (es ++ d ∷ []) (All-head HasPlace e es all') (push es (All-tail HasPlace e es all'))

      at : (b : Bool) → All HasPlace (cond b ds (with_room (filter (λ (held : NotedDir). not (covers d.dir held.dir)) ds) ++ d ∷ []))
      at true = all
      at false = push (with_room (filter (λ (held : NotedDir). not (covers d.dir held.dir)) ds)) (room (nat_lt (length (filter (λ (held : NotedDir). not (covers d.dir held.dir)) ds)) 10) (filter (λ (held : NotedDir). not (covers d.dir held.dir)) ds) fewer)

  pub dirs_have_places : (past : List Entry) → All (IsApart keep mine) past → ArePlaced past → (s : ℕ) → IsTrue (mine s) → All HasPlace (dirs roster names past s)
  dirs_have_places [] all are s own = All-nil HasPlace
  dirs_have_places (entry ∷ past) all are s own = at (keep entry) refl (dirs_have_places past (All-tail (IsApart keep mine) entry past all) are.0 s own)
    where
      by : (b c : Bool) (d : NotedDir) → (IsTrue c → HasPlace d) → All HasPlace (dirs roster names past s) → All HasPlace (cond b [] (cond c (with_dir d (dirs roster names past s)) (dirs roster names past s)))
      by true c d has before = All-nil HasPlace
      by false true d has before = all_with d (dirs roster names past s) (has refl) before
      by false false d has before = before

      at : (b : Bool) → keep entry ≡ b → All HasPlace (dirs roster names past s) → All HasPlace (dirs roster names (entry ∷ past) s)
      at true is before = by (takes_away entry s) (notes entry.call s && is_noted entry.reply) (record { dir = dir_of (path_of roster entry.request (target_of names s)); place = length past }) (λ noted. (are.1 is).0) before
      at false is before =
          by (takes_away entry s) (notes entry.call s && is_noted entry.reply) (record { dir = dir_of (path_of roster entry.request (target_of names s)); place = length past })
          (λ noted. absurd (false≢true (sym (ap (λ b. b && is_noted entry.reply) ((All-head (IsApart keep mine) entry past all).out is s own).noted) ∙ noted))) before

  -- THE BEST DIRECTORY

  module _ (placing : IsPlacing g P) where
    abbrev FoundAt : Option Found → Type 0
    FoundAt None = Unit {0}
    FoundAt (Some found) = P found.noted.place × IsTrue (mine found.space)

    longer_placed : (a b : NotedDir) → P a.place → P b.place → longer (placed g a) (placed g b) ≡ longer a b
    longer_placed a b has_a has_b = ap (λ c. nat_lt (length b.dir) (length a.dir) || length a.dir == length b.dir && c) (placing.order b.place a.place has_b has_a)

    better_placed : (a b : Option Found) → FoundAt a → FoundAt b → better (option_map (found_placed g) a) (option_map (found_placed g) b) ≡ option_map (found_placed g) (better a b)
    better_placed None None has_a has_b = refl
    better_placed None (Some b) has_a has_b = refl
    better_placed (Some a) None has_a has_b = refl
    better_placed (Some a) (Some b) has_a has_b =
        ap (λ c. cond {A = Option Found} c (Some (found_placed g a)) (Some (found_placed g b))) (longer_placed a.noted b.noted has_a.0 has_b.0) ∙ at (longer a.noted b.noted)
      where
        at : (c : Bool) → cond {A = Option Found} c (Some (found_placed g a)) (Some (found_placed g b)) ≡ option_map (found_placed g) (cond c (Some a) (Some b))
        at true = refl
        at false = refl

    better_at : (a b : Option Found) → FoundAt a → FoundAt b → FoundAt (better a b)
    better_at None b has_a has_b = has_b
    better_at (Some a) None has_a has_b = has_a
    better_at (Some a) (Some b) has_a has_b = at (longer a.noted b.noted)
      where
        at : (c : Bool) → FoundAt (cond c (Some a) (Some b))
        at true = has_a
        at false = has_b

    abbrev look : ℕ → List ℕ → NotedDir → Option Found
    look s p noted = cond (covers noted.dir p) (Some (record { space = s; noted = noted })) None

    look_at : (s : ℕ) → IsTrue (mine s) → (p : List ℕ) (d : NotedDir) → P d.place → FoundAt (look s p d)
    look_at s own p d has = at (covers d.dir p)
      where
        at : (c : Bool) → FoundAt (cond c (Some (record { space = s; noted = d })) None)
        at true = (has, own)
        at false = tt

    look_placed : (s : ℕ) (p : List ℕ) (d : NotedDir) → look s p (placed g d) ≡ option_map (found_placed g) (look s p d)
    look_placed s p d = at (covers d.dir p)
      where
        at : (c : Bool) → cond {A = Option Found} c (Some (record { space = s; noted = placed g d })) None ≡ option_map (found_placed g) (cond c (Some (record { space = s; noted = d })) None)
        at true = refl
        at false = refl

    fold_placed : (s : ℕ) → IsTrue (mine s) → (p : List ℕ) (ds : List NotedDir) → All HasPlace ds → (best : Option Found) → FoundAt best →
        fold (λ best noted. better best (look s p noted)) (option_map (found_placed g) best) (map (placed g) ds) ≡ option_map (found_placed g) (fold (λ best noted. better best (look s p noted)) best ds)
    fold_placed s own p [] all best has = refl
    fold_placed s own p (d ∷ ds) all best has =
        ap (λ b. fold (λ best noted. better best (look s p noted)) b (map (placed g) ds)) (ap (better (option_map (found_placed g) best)) (look_placed s p d) ∙ better_placed best (look s p d) has (look_at s own p d (All-head HasPlace d ds all)))
        ∙ fold_placed s own p ds (All-tail HasPlace d ds all) (better best (look s p d)) (better_at best (look s p d) has (look_at s own p d (All-head HasPlace d ds all)))

    fold_at : (s : ℕ) → IsTrue (mine s) → (p : List ℕ) (ds : List NotedDir) → All HasPlace ds → (best : Option Found) → FoundAt best → FoundAt (fold (λ best noted. better best (look s p noted)) best ds)
    fold_at s own p [] all best has = has
    fold_at s own p (d ∷ ds) all best has = fold_at s own p ds (All-tail HasPlace d ds all) (better best (look s p d)) (better_at best (look s p d) has (look_at s own p d (All-head HasPlace d ds all)))

    module _ (past : List Entry) (all : All (IsApart keep mine) past) (are : ArePlaced past) (place : Site) (p : List ℕ) where
      found_shrunk : (s : ℕ) → IsTrue (mine s) → found_in roster names (shrink f keep past) place p s ≡ option_map (found_placed g) (found_in roster names past place p s)
      found_shrunk s own =
          ap (λ b. cond (b && (scheme_is names is_basic s || scheme_is names is_digest s) && is_of_site names place s) (fold (λ best noted. better best (look s p noted)) None (dirs roster names (shrink f keep past) s)) None) (live_shrunk f keep mine past all s own)
          ∙ (ap (λ ds. cond (live past s && (scheme_is names is_basic s || scheme_is names is_digest s) && is_of_site names place s) (fold (λ best noted. better best (look s p noted)) None ds) None) (dirs_shrunk past all are s own)
          ∙ at (live past s && (scheme_is names is_basic s || scheme_is names is_digest s) && is_of_site names place s))
        where
          at : (b : Bool) → cond b (fold (λ best noted. better best (look s p noted)) None (map (placed g) (dirs roster names past s))) None ≡ option_map (found_placed g) (cond b (fold (λ best noted. better best (look s p noted)) None (dirs roster names past s)) None)
          at true = fold_placed s own p (dirs roster names past s) (dirs_have_places past all are s own) None tt
          at false = refl

      found_has : (s : ℕ) → IsTrue (mine s) → FoundAt (found_in roster names past place p s)
      found_has s own = at (live past s && (scheme_is names is_basic s || scheme_is names is_digest s) && is_of_site names place s)
        where
          at : (b : Bool) → FoundAt (cond b (fold (λ best noted. better best (look s p noted)) None (dirs roster names past s)) None)
          at true = fold_at s own p (dirs roster names past s) (dirs_have_places past all are s own) None tt
          at false = tt

      abbrev Own : ℕ → Type 0
      Own s = IsTrue (mine s)

      best_at : (xs : List ℕ) → All Own xs → FoundAt (best_found (found_in roster names past place p) xs)
      best_at [] own = tt
      best_at (x ∷ xs) own =
          better_at (found_in roster names past place p x) (best_found (found_in roster names past place p) xs) (found_has x (All-head Own x xs own)) (best_at xs (All-tail Own x xs own))

      best_placed : (xs : List ℕ) → All Own xs → best_found (found_in roster names (shrink f keep past) place p) xs ≡ option_map (found_placed g) (best_found (found_in roster names past place p) xs)
      best_placed [] own = refl
      best_placed (x ∷ xs) own =
          ap (λ o. better o (best_found (found_in roster names (shrink f keep past) place p) xs)) (found_shrunk x (All-head Own x xs own))
          ∙ (ap (better (option_map (found_placed g) (found_in roster names past place p x))) (best_placed xs (All-tail Own x xs own))
          ∙ better_placed (found_in roster names past place p x) (best_found (found_in roster names past place p) xs) (found_has x (All-head Own x xs own)) (best_at xs (All-tail Own x xs own)))

      -- a site of one's own partition has no foreign spaces
      best_own : ((s : ℕ) → mine s ≡ false → is_of_site names place s ≡ false) → (xs : List ℕ) → best_found (found_in roster names past place p) (filter mine xs) ≡ best_found (found_in roster names past place p) xs
      best_own home [] = refl
      best_own home (x ∷ xs) = at (mine x) refl (best_own home xs)
        where
          nothing : mine x ≡ false → found_in roster names past place p x ≡ None
          nothing is = ap (λ b. cond {A = Option Found} (live past x && (scheme_is names is_basic x || scheme_is names is_digest x) && b) (fold (λ best noted. better best (look x p noted)) None (dirs roster names past x)) None) (home x is) ∙ by (live past x) (scheme_is names is_basic x || scheme_is names is_digest x)
            where
              by : (a b : Bool) → cond {A = Option Found} (a && b && false) (fold (λ best noted. better best (look x p noted)) None (dirs roster names past x)) None ≡ None
              by true true = refl
              by true false = refl
              by false b = refl

          at : (b : Bool) → mine x ≡ b → best_found (found_in roster names past place p) (filter mine xs) ≡ best_found (found_in roster names past place p) xs → best_found (found_in roster names past place p) (cond b (x ∷ filter mine xs) (filter mine xs)) ≡ best_found (found_in roster names past place p) (x ∷ xs)
          at true is before = ap (better (found_in roster names past place p x)) before
          at false is before = before ∙ sym (ap (λ o. better o (best_found (found_in roster names past place p) xs)) (nothing is))

      space_of_placed : (o : Option Found) → option_map (λ (found : Found). found.space) (option_map (found_placed g) o) ≡ option_map (λ (found : Found). found.space) o
      space_of_placed None = refl
      space_of_placed (Some found) = refl

      -- what is found there is one's own
      pub by_path_own : ((s : ℕ) → mine s ≡ false → is_of_site names place s ≡ false) → (s : ℕ) → by_path roster names past place p ≡ Some s → IsTrue (mine s)
      by_path_own home s is =
          at (best_found (found_in roster names past place p) (filter mine (spaces_given past))) (best_at (filter mine (spaces_given past)) (filter_passes mine (spaces_given past)))
          (ap (option_map (λ (found : Found). found.space)) (best_own home (spaces_given past)) ∙ is)
        where
          at : (o : Option Found) → FoundAt o → option_map (λ (found : Found). found.space) o ≡ Some s → IsTrue (mine s)
          at None has is' = absurd (none-some s is')
          at (Some found) has is' = (let same : found.space ≡ s = cc in subst (λ k. IsTrue (mine k)) same has.1)

      pub by_path_shrunk : ((s : ℕ) → mine s ≡ false → is_of_site names place s ≡ false) → by_path roster names (shrink f keep past) place p ≡ by_path roster names past place p
      by_path_shrunk home =
          ap (λ xs. option_map (λ (found : Found). found.space) (best_found (found_in roster names (shrink f keep past) place p) xs)) (given_shrunk f keep mine past all)
          ∙ (ap (option_map (λ (found : Found). found.space)) (best_placed (filter mine (spaces_given past)) (filter_passes mine (spaces_given past)))
          ∙ (space_of_placed (best_found (found_in roster names past place p) (filter mine (spaces_given past)))
          ∙ ap (option_map (λ (found : Found). found.space)) (best_own home (spaces_given past))))
