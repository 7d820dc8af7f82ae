-- Directories by their places.
use Rattle.std.proofs.Common.{◌≡◌, ℕ, Bool, true, false, cond, ltb, List, [], ◌∷◌, ◌++◌, length, drop, take, get_or, reverse, ◌+◌, ◌<◌, ◌&&◌, arith, refl, ap, ◌∙◌, sym}
use Rattle.std.specs.Prelude.{map, unwrap_or, option_map, Option, Some, None}
use Rattle.std.proofs.lemmas.List.{take_more, length-map, map-append, length-reverse, length-take-le}
use Rattle.std.proofs.lemmas.Option.{slice_get-get_or}
use Rattle.spaces.specs.declared.roster.Roster.{Roster}
use Rattle.auth_events.specs.declared.journal.Entry.{Entry}
use Rattle.auth_events.specs.Tables.{Tables}
use Rattle.auth_events.specs.Past.{takes_away}
use Rattle.auth_events.specs.Book.{NotedDir, with_room, with_dir, better, dirs, notes, is_noted, target_of, path_of}
use Rattle.spaces.specs.Paths.{dir_of, covers}
use Rattle.spaces.specs.declared.site.Target.{Target}
use Rattle.plain_book.specs.Places.{noted_at, request_at, best_dir}
use Rattle.std.proofs.lemmas.List.Sums.{fold_push}
use Rattle.plain_book.proofs.Backward.{past_more}

drop-map : (f : ℕ → NotedDir) (xs : List ℕ) → drop 1 (map f xs) ≡ map f (drop 1 xs)
drop-map f [] = refl
drop-map f (x ∷ xs) = refl

-- of ten directories the first is dropped
pub with_room_map : (f : ℕ → NotedDir) (xs : List ℕ) (x : ℕ) → map f (cond (ltb (length xs) 10) xs (drop 1 xs) ++ x ∷ []) ≡ with_room (map f xs) ++ f x ∷ []
with_room_map f xs x = map-append f (cond (ltb (length xs) 10) xs (drop 1 xs)) (x ∷ []) ∙ ap (λ ds. ds ++ f x ∷ []) (room (ltb (length xs) 10) ∙ ap (λ n. cond (ltb n 10) (map f xs) (drop 1 (map f xs))) (sym (length-map xs f)))
  where
    room : (b : Bool) → map f (cond b xs (drop 1 xs)) ≡ cond b (map f xs) (drop 1 (map f xs))
    room true = refl
    room false = sym (drop-map f xs)

noted_same : (roster : Roster) (target : Target) (r r' l l' : ℕ) → r ≡ r' → l ≡ l' → ◌≡◌ {A = NotedDir} (record { dir = dir_of (path_of roster r target); place = l }) (record { dir = dir_of (path_of roster r' target); place = l' })
noted_same roster target r r' l l' same_r same_l = cc

-- an entry more has been looked at
pub dirs_more : (roster : Roster) (names : Tables) (entries : List Entry) (at s : ℕ) → at < length entries → (d : Entry) → dirs roster names (reverse (take (at + 1) entries)) s ≡ cond (takes_away (get_or entries at d) s) [] (cond (notes (get_or entries at d).call s && is_noted (get_or entries at d).reply) (with_dir (noted_at roster entries (target_of names s) at) (dirs roster names (reverse (take at entries)) s)) (dirs roster names (reverse (take at entries)) s))
dirs_more roster names entries at s within d =
    let entry = get_or entries at d in
    let before = reverse (take at entries) in
    let request : (get_or entries at d).request ≡ request_at entries at =
    sym (ap (λ (o : Option Entry). unwrap_or (option_map (λ e. e.request) o) 0) (slice_get-get_or entries at d within)) in
    let place : length (reverse (take at entries)) ≡ at = length-reverse (take at entries) ∙ length-take-le at entries (omega arith) in
    ap (λ past. dirs roster names past s) (past_more entries at d within)
    ∙ ap (λ noted. cond (takes_away entry s) [] (cond (notes entry.call s && is_noted entry.reply) (with_dir noted (dirs roster names before s)) (dirs roster names before s)))
    (noted_same roster (target_of names s) _ _ _ _ request place)

-- a directory more has been looked at
pub best_dir_more : (p : List ℕ) (s : ℕ) (f : ℕ → NotedDir) (held : List ℕ) (i d : ℕ) → i < length held → best_dir p s (map f (take (i + 1) held)) ≡ better (best_dir p s (map f (take i held))) (cond (covers (f (get_or held i d)).dir p) (Some (record { space = s; noted = f (get_or held i d) })) None)
best_dir_more p s f held i d within =
    ap (λ xs. best_dir p s (map f xs)) (take_more held i d within)
    ∙ (ap (best_dir p s) (map-append f (take i held) (get_or held i d ∷ []))
    ∙ fold_push (λ best noted. better best (cond (covers noted.dir p) (Some (record { space = s; noted = noted })) None)) None (map f (take i held)) (f (get_or held i d)))
