-- Linked givings: one more, more room for spaces, and the way back through the givings of a space.
use Rattle.std.proofs.Common.{◌≡◌, ℕ, zero, suc, ◌+◌, ◌-◌, ◌<◌, ◌≤◌, Bool, true, false, cond, List, [], ◌∷◌, ◌++◌, length, reverse, take, replicate, refl, ap, sym, subst, ◌∙◌, inl, inr, ◌⊎◌, arith, Option, Some, None, slice_get}
use Rattle.std.specs.Prelude.{◌==◌, ◌&&◌, find, map, option_map, slice_set}
use Rattle.std.proofs.lemmas.Bool.Decides.{nat_tests}
use Rattle.std.proofs.lemmas.List.{reverse-append, length-reverse, take_more, take_all, take-append-le, length-take-le}
use Rattle.std.proofs.lemmas.Option.{slice_get_within, get_or_from_slice_get}
use Rattle.auth_events.specs.declared.journal.Gift.{Gift}
use Rattle.auth_events.specs.Book.{same_gift}
use Rattle.auth_events.proofs.Same.{number_same}
use Rattle.gift_log.specs.declared.log.Given.{Given}
use Rattle.gift_log.specs.declared.log.Link.{Link}
use Rattle.gift_log.specs.Gifts.{source_found}
use Rattle.gift_log.specs.Links.{AreLinked, kept_at, latest_of}

-- the first links, the latest first
abbrev pub back : ℕ → List Link → List Link
back n links = reverse (take n links)

abbrev pub gives_it : Gift → Link → Bool
gives_it gift link = same_gift link.given.gift gift

back_more : (links : List Link) (n : ℕ) (link : Link) → slice_get links n ≡ Some link → back (n + 1) links ≡ link ∷ back n links
back_more links n link there =
    ap reverse (take_more links n link (slice_get_within links n link there) ∙ ap (λ x. take n links ++ x ∷ []) (get_or_from_slice_get links n link link there))
    ∙ reverse-append (take n links) (link ∷ [])

latest_within : (links : List Link) (s : ℕ) → latest_of links s ≤ length links
latest_within [] s = omega arith
latest_within (link ∷ earlier) s = at (link.given.gift.space == s) (latest_within earlier s)
  where
    at : (b : Bool) → latest_of earlier s ≤ length earlier → cond b (length earlier + 1) (latest_of earlier s) ≤ suc (length earlier)
    at true within = omega arith
    at false within = omega (arith, within)

there_at : (links : List Link) (k : ℕ) → k < length links → (link : Link) × (slice_get links k ≡ Some link)
there_at [] k within = absurd (omega (arith, within))
there_at (link ∷ links) zero within = (link, refl)
there_at (x ∷ links) (suc k) within = there_at links k (omega (arith, within))

back_next : (links : List Link) (k : ℕ) (link : Link) → slice_get links k ≡ Some link → back (suc k) links ≡ link ∷ back k links
back_next links k link there = let next : suc k ≡ k + 1 = omega arith in ap (λ n. back n links) next ∙ back_more links k link there

back_length : (links : List Link) (k : ℕ) → k ≤ length links → length (back k links) ≡ k
back_length links k within = length-reverse (take k links) ∙ length-take-le k links within

other_gift : (gift : Gift) (link : Link) → (link.given.gift.space == gift.space) ≡ false → gives_it gift link ≡ false
other_gift gift link other = ap (λ b. b && (link.given.gift.ordinal == gift.ordinal)) other

-- what comes behind a space's latest giving is none of its gifts
skip : (links : List Link) (gift : Gift) (k : ℕ) → k ≤ length links → find (gives_it gift) (back k links) ≡ find (gives_it gift) (back (latest_of (back k links) gift.space) links)
skip links gift zero within = refl
skip links gift (suc k) within =
    let one = there_at links k (omega (arith, within)) in
    let more = back_next links k one.0 one.1 in
    ap (find (gives_it gift)) more
    ∙ (at one.0 (one.0.given.gift.space == gift.space) refl more (skip links gift k (omega (arith, within)))
    ∙ sym (ap (λ xs. find (gives_it gift) (back (latest_of xs gift.space) links)) more))
  where
    at : (link : Link) (b : Bool) → (link.given.gift.space == gift.space) ≡ b → back (suc k) links ≡ link ∷ back k links
        → find (gives_it gift) (back k links) ≡ find (gives_it gift) (back (latest_of (back k links) gift.space) links)
        → find (gives_it gift) (link ∷ back k links) ≡ find (gives_it gift) (back (latest_of (link ∷ back k links) gift.space) links)
    at link true same more before =
        let number : latest_of (link ∷ back k links) gift.space ≡ suc k =
        ap (λ b. cond b (length (back k links) + 1) (latest_of (back k links) gift.space)) same ∙ omega (arith, back_length links k (omega (arith, within))) in
        ap (find (gives_it gift)) (sym more) ∙ sym (ap (λ n. find (gives_it gift) (back n links)) number)
    at link false other more before =
        ap (λ b. cond b (Some link) (find (gives_it gift) (back k links))) (other_gift gift link other)
        ∙ (before ∙ sym (ap (λ b. find (gives_it gift) (back (cond b (length (back k links) + 1) (latest_of (back k links) gift.space)) links)) other))

-- the space's latest giving is one of the space
latest_space : (links : List Link) (s k n : ℕ) → k ≤ length links → latest_of (back k links) s ≡ suc n → (n < k) × ((link : Link) → slice_get links n ≡ Some link → (link.given.gift.space == s) ≡ true)
latest_space links s zero n within is = absurd (omega (arith, is))
latest_space links s (suc k) n within is =
    let one = there_at links k (omega (arith, within)) in
    at one.0 (one.0.given.gift.space == s) refl one.1 (sym (ap (λ xs. latest_of xs s) (back_next links k one.0 one.1)) ∙ is) (latest_space links s k n (omega (arith, within)))
  where
    at : (link : Link) (b : Bool) → (link.given.gift.space == s) ≡ b → slice_get links k ≡ Some link → cond (link.given.gift.space == s) (length (back k links) + 1) (latest_of (back k links) s) ≡ suc n
        → (latest_of (back k links) s ≡ suc n → (n < k) × ((one : Link) → slice_get links n ≡ Some one → (one.given.gift.space == s) ≡ true))
        → (n < suc k) × ((one : Link) → slice_get links n ≡ Some one → (one.given.gift.space == s) ≡ true)
    at link true same there is' before =
        let number : n ≡ k = omega (arith, sym (ap (λ b. cond b (length (back k links) + 1) (latest_of (back k links) s)) same) ∙ is', back_length links k (omega (arith, within))) in
        (omega (arith, number), λ one at_one. (let equal : Some one ≡ Some link = sym at_one ∙ (ap (slice_get links) number ∙ there) in let thing : link ≡ one = cc in subst (λ x. (x.given.gift.space == s) ≡ true) thing same))
    at link false other there is' before =
        let earlier = before (sym (ap (λ b. cond b (length (back k links) + 1) (latest_of (back k links) s)) other) ∙ is') in
        let lower = earlier.0 in
        (omega (arith, lower), earlier.1)

-- THE WAY BACK

-- the gift is looked for among the first k links, and this is the number of the latest giving of its space there
pub record IsOnTheWay (links : List Link) (gift : Gift) (number : ℕ) : Type 0 where
  pub k : ℕ
  pub within : k ≤ length links
  pub number_is : number ≡ latest_of (back k links) gift.space
  pub same : find (gives_it gift) (reverse links) ≡ find (gives_it gift) (back k links)

pub way_begins : (links : List Link) (latest : List ℕ) (gift : Gift) → AreLinked links latest → IsOnTheWay links gift (kept_at latest gift.space)
way_begins links latest gift linked =
    let whole : back (length links) links ≡ reverse links = ap reverse (take_all (length links) links (omega arith)) in
    record {
      k = length links;
      within = omega arith;
      number_is = linked.newest gift.space ∙ sym (ap (λ xs. latest_of xs gift.space) whole);
      same = sym (ap (find (gives_it gift)) whole);
    }

module _ (links : List Link) (latest : List ℕ) (gift : Gift) (linked : AreLinked links latest) where
  here : (n : ℕ) (link : Link) → slice_get links n ≡ Some link → IsOnTheWay links gift (suc n) → find (gives_it gift) (reverse links) ≡ cond (gives_it gift link) (Some link) (find (gives_it gift) (back n links))
  here n link there way =
      way.same
      ∙ (skip links gift way.k way.within
      ∙ (ap (λ m. find (gives_it gift) (back m links)) (sym way.number_is)
      ∙ ap (find (gives_it gift)) (back_next links n link there)))

  pub way_ends : (n : ℕ) (link : Link) → slice_get links n ≡ Some link → IsOnTheWay links gift (suc n) → gives_it gift link ≡ true → find (gives_it gift) (reverse links) ≡ Some link
  way_ends n link there way is =
      here n link there way ∙ ap (λ b. cond b (Some link) (find (gives_it gift) (back n links))) is

  pub way_goes_on : (n : ℕ) (link : Link) → slice_get links n ≡ Some link → IsOnTheWay links gift (suc n) → gives_it gift link ≡ false → IsOnTheWay links gift link.before
  way_goes_on n link there way other =
      let its = latest_space links gift.space way.k n way.within (sym way.number_is) in
      let space : link.given.gift.space ≡ gift.space = number_same link.given.gift.space gift.space (its.1 link there) in
      record {
        k = n;
        within = omega (arith, slice_get_within links n link there);
        number_is = linked.before n link there ∙ ap (latest_of (back n links)) space;
        same = here n link there way ∙ ap (λ b. cond b (Some link) (find (gives_it gift) (back n links))) other;
      }

  pub goes_back : (n : ℕ) (link : Link) → slice_get links n ≡ Some link → link.before ≤ n
  goes_back n link there =
      let most = latest_within (back n links) link.given.gift.space in
      omega (arith, most, linked.before n link there, back_length links n (omega (arith, slice_get_within links n link there)))

  pub way_is_over : IsOnTheWay links gift 0 → find (gives_it gift) (reverse links) ≡ None
  way_is_over way =
      way.same ∙ (skip links gift way.k way.within ∙ ap (λ m. find (gives_it gift) (back m links)) (sym way.number_is))

-- ONE MORE

slice_get-push : {A : Type 0} (xs : List A) (x y : A) (j : ℕ) → slice_get (xs ++ x ∷ []) j ≡ Some y → (slice_get xs j ≡ Some y) ⊎ ((j ≡ length xs) × (x ≡ y))
slice_get-push [] x y zero there = let same : x ≡ y = cc in inr (refl, same)
slice_get-push [] x y (suc j) there = inl there
slice_get-push (z ∷ zs) x y zero there = inl there
slice_get-push (z ∷ zs) x y (suc j) there =
    elim (slice_get-push zs x y j there) [
      | inl before ↦ inl before
      | inr last ↦ let place = last.0 in inr (omega arith, last.1)
    ]

kept_set : (latest : List ℕ) (k s n : ℕ) → k < length latest → kept_at (slice_set latest k n) s ≡ cond (k == s) n (kept_at latest s)
kept_set [] k s n within = absurd (omega (arith, within))
kept_set (x ∷ latest) zero zero n within = refl
kept_set (x ∷ latest) zero (suc s) n within = sym (ap (λ b. cond b n (kept_at latest s)) (apart s))
  where
    apart : (a : ℕ) → (0 == suc a) ≡ false
    apart a = grind (arith, nat_tests)
kept_set (x ∷ latest) (suc k) zero n within = sym (ap (λ b. cond b n x) (apart k))
  where
    apart : (a : ℕ) → (suc a == 0) ≡ false
    apart a = grind (arith, nat_tests)
kept_set (x ∷ latest) (suc k) (suc s) n within =
    kept_set latest k s n (omega (arith, within)) ∙ ap (λ b. cond b n (kept_at latest s)) (same_sucs k s)
  where
    same_sucs : (a b : ℕ) → (a == b) ≡ (suc a == suc b)
    same_sucs a b = grind (arith, nat_tests)

pub linked_more : (links : List Link) (latest : List ℕ) (link : Link) → AreLinked links latest → link.given.gift.space < length latest → link.before ≡ kept_at latest link.given.gift.space
    → AreLinked (links ++ link ∷ []) (slice_set latest link.given.gift.space (length links + 1))
linked_more links latest link linked within is = record {
  before = λ n one there. elim (slice_get-push links link one n there) [
    | inl earlier ↦ linked.before n one earlier ∙ sym (ap (λ xs. latest_of (reverse xs) one.given.gift.space) (take-append-le n links (link ∷ []) (omega (arith, slice_get_within links n one earlier))))
    | inr last ↦
        subst (λ x. x.before ≡ latest_of (back n (links ++ link ∷ [])) x.given.gift.space) last.1
        (is ∙ (linked.newest link.given.gift.space
        ∙ sym (ap (λ xs. latest_of (reverse xs) link.given.gift.space) (ap (λ m. take m (links ++ link ∷ [])) last.0 ∙ (take-append-le (length links) links (link ∷ []) (omega arith) ∙ take_all (length links) links (omega arith))))))
  ];
  newest = λ s. kept_set latest link.given.gift.space s (length links + 1) within
      ∙ (at s (link.given.gift.space == s)
      ∙ sym (ap (λ xs. latest_of xs s) (reverse-append links (link ∷ []))));
}
  where
    at : (s : ℕ) (b : Bool) → cond b (length links + 1) (kept_at latest s) ≡ cond b (length (reverse links) + 1) (latest_of (reverse links) s)
    at s true = ap (λ n. n + 1) (sym (length-reverse links))
    at s false = linked.newest s

-- more room for spaces, which have no giving
kept_zeros : (n s : ℕ) → kept_at (replicate n 0) s ≡ 0
kept_zeros zero s = refl
kept_zeros (suc n) zero = refl
kept_zeros (suc n) (suc s) = kept_zeros n s

kept_longer : (latest : List ℕ) (n s : ℕ) → kept_at (latest ++ replicate n 0) s ≡ kept_at latest s
kept_longer [] n s = kept_zeros n s
kept_longer (x ∷ latest) n zero = refl
kept_longer (x ∷ latest) n (suc s) = kept_longer latest n s

pub linked_longer : (links : List Link) (latest : List ℕ) (n : ℕ) → AreLinked links latest → AreLinked links (latest ++ replicate n 0)
linked_longer links latest n linked = record {
  before = linked.before;
  newest = λ s. kept_longer latest n s ∙ linked.newest s;
}

pub linked_nothing : AreLinked [] []
linked_nothing = record {
  before = λ n link there. absurd cc;
  newest = λ s. refl;
}

-- GIVINGS

find_map : {A B : Type 0} (f : A → B) (test : B → Bool) (xs : List A) → find test (map f xs) ≡ option_map f (find (λ x. test (f x)) xs)
find_map f test [] = refl
find_map f test (x ∷ xs) = at (test (f x)) (find_map f test xs)
  where
    at : (b : Bool) → find test (map f xs) ≡ option_map f (find (λ y. test (f y)) xs) → cond b (Some (f x)) (find test (map f xs)) ≡ option_map f (cond b (Some x) (find (λ y. test (f y)) xs))
    at true before = refl
    at false before = before

map_push : {A B : Type 0} (f : A → B) (xs ys : List A) → map f (xs ++ ys) ≡ map f xs ++ map f ys
map_push f [] ys = refl
map_push f (x ∷ xs) ys = ap (λ l. f x ∷ l) (map_push f xs ys)

reverse_cons : {A : Type 0} (x : A) (xs : List A) → reverse (x ∷ xs) ≡ reverse xs ++ x ∷ []
reverse_cons x xs = reverse-append (x ∷ []) xs

map_reverse : {A B : Type 0} (f : A → B) (xs : List A) → reverse (map f xs) ≡ map f (reverse xs)
map_reverse f [] = refl
map_reverse f (x ∷ xs) =
    reverse_cons (f x) (map f xs)
    ∙ (ap (λ l. l ++ f x ∷ []) (map_reverse f xs) ∙ (sym (map_push f (reverse xs) (x ∷ [])) ∙ ap (map f) (sym (reverse_cons x xs))))

-- what is found among the links is where the identity is
pub source_is : (links : List Link) (gift : Gift) (found : Option Link) → find (gives_it gift) (reverse links) ≡ found
    → source_found (map (λ link. link.given) links) gift ≡ option_map (λ link. link.given.source) found
source_is links gift found is =
    ap (λ xs. option_map (λ (given : Given). given.source) (find (λ given. same_gift given.gift gift) xs)) (map_reverse (λ link. link.given) links)
    ∙ (ap (option_map (λ (given : Given). given.source)) (find_map (λ (link : Link). link.given) (λ given. same_gift given.gift gift) (reverse links))
    ∙ (ap (λ o. option_map (λ (given : Given). given.source) (option_map (λ (link : Link). link.given) o)) is ∙ twice found))
  where
    twice : (o : Option Link) → option_map (λ (given : Given). given.source) (option_map (λ (link : Link). link.given) o) ≡ option_map (λ (link : Link). link.given.source) o
    twice None = refl
    twice (Some link) = refl

pub givings_more : (links : List Link) (link : Link) → map (λ (one : Link). one.given) (links ++ link ∷ []) ≡ map (λ (one : Link). one.given) links ++ link.given ∷ []
givings_more links link = map_push (λ (one : Link). one.given) links (link ∷ [])

pub length_map : {A B : Type 0} (f : A → B) (xs : List A) → length (map f xs) ≡ length xs
length_map f [] = refl
length_map f (x ∷ xs) = let before = length_map f xs in omega (arith, before)

-- AT A NUMBER

module _ (links : List Link) (latest : List ℕ) (gift : Gift) (linked : AreLinked links latest) (number : ℕ) (way : IsOnTheWay links gift number) where
  pub within_at : 1 ≤ number → number - 1 < length links
  within_at some =
      let most = latest_within (back way.k links) gift.space in
      omega (arith, some, most, way.number_is, back_length links way.k way.within, way.within)

  pub over_at : number ≡ 0 → source_found (map (λ (link : Link). link.given) links) gift ≡ None
  over_at none = source_is links gift None (way_is_over links latest gift linked (subst (IsOnTheWay links gift) none way))

  module _ (some : 1 ≤ number) (link : Link) (there : slice_get links (number - 1) ≡ Some link) where
    back_one : IsOnTheWay links gift (suc (number - 1))
    back_one = let one : number ≡ suc (number - 1) = omega (arith, some) in subst (IsOnTheWay links gift) one way

    pub found_at : gives_it gift link ≡ true → source_found (map (λ (one : Link). one.given) links) gift ≡ Some link.given.source
    found_at is = source_is links gift (Some link) (way_ends links latest gift linked (number - 1) link there back_one is)

    pub on_at : gives_it gift link ≡ false → IsOnTheWay links gift link.before
    on_at other = way_goes_on links latest gift linked (number - 1) link there back_one other

    pub back_at : link.before < number
    back_at = let lower = goes_back links latest gift linked (number - 1) link there in omega (arith, some, lower)
