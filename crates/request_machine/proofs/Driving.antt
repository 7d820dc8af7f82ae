-- Links from turn to turn: the machine's own alone are open and dialed.
use Rattle.std.proofs.Common.{◌≡◌, ℕ, ◌+◌, ◌-◌, ◌*◌, ◌==◌, ◌<◌, ◌≤◌, Bool, true, false, not, ◌||◌, IsTrue, List, [], ◌∷◌, ◌++◌, length, Option, Some, None, IfSome, is_some, unwrap_or, option_map, refl, sym, ap, ◌∙◌, subst, arith, if◌then◌else◌}
use Rattle.std.proofs.lemmas.Grind.{common_steps}
use Rattle.std.proofs.lemmas.Bool.{false≢true, eqb-true}
use Rattle.std.proofs.lemmas.List.{append-nil}
use Rattle.auth_runs.specs.declared.event.Event.{Event}
use Rattle.spaces.specs.declared.site.Target.{Target}
use Rattle.spaces.specs.declared.site.Target.TheVariants.{Server, Proxy, Socks}
use Rattle.spaces.specs.declared.place.Origin.{Origin}
use Rattle.link_trait.specs.declared.links.LinkName.{LinkName}
use Rattle.link_trait.specs.declared.dialer.Dial.{Dial}
use Rattle.link_trait.specs.Links.{same_link, has_link, without_link, has_dial, IsUndialed}
use Rattle.link_trait.specs.Told.{grown}
use Rattle.request_machine.specs.declared.stage.Stage.{Stage}
use Rattle.request_machine.specs.declared.stage.Stage.TheVariants.{Go, Learn, Ask, Read, NextNonce}
use Rattle.request_machine.specs.declared.stage.Closing.{Closing}
use Rattle.request_machine.specs.declared.stage.Prompt.{Prompt}
use Rattle.request_machine.specs.Renewals.{stage_behind}
use Rattle.request_machine.specs.declared.stage.Piece.{Piece}
use Rattle.request_machine.specs.declared.holding.Holding.{Holding}
use Rattle.request_machine.specs.Changed.{holding}
use Rattle.request_machine.specs.Needs.{need_at, need_of}
use Rattle.request_machine.specs.Told.{IsLacking}
use Rattle.request_machine.specs.Kept.{Kept, IsLinkOpen}
use Rattle.request_machine.specs.Turns.{next_link, IsLinkKept, opened_without, is_asking, turns_at, turns_left}
use Rattle.request_machine.specs.Linked.{Way, way, goes_on, is_away, is_ending, Line, line, IsLinkedOn, IsLinked, nth_link, IsOnlyLink, AreDialsOf, of_others, IsDriven}
use Rattle.request_machine.proofs.Dialing.{grown_none}
use Rattle.request_machine.specs.Linked.Way.{Onward, Asking, Reading, Ending}

-- A LINE THAT STAYS

-- what goes on, and keeps its line, is linked as before
linked_way : (before now : Way) (l : Line) → IsTrue (goes_on before now) → IsLinkedOn before l → IsLinkedOn now l
linked_way before Ending l goes linked = tt
linked_way Onward Onward l goes linked = linked
linked_way Onward Asking l goes linked = linked.0
linked_way Asking Asking l goes linked = linked
linked_way (Reading link) (Reading on) l goes linked = (linked.0, linked.1, linked.2, eqb-true on link goes ∙ linked.3)
linked_way Onward (Reading on) l goes linked = absurd (false≢true goes)
linked_way Asking Onward l goes linked = absurd (false≢true goes)
linked_way Asking (Reading on) l goes linked = absurd (false≢true goes)
linked_way (Reading link) Onward l goes linked = absurd (false≢true goes)
linked_way (Reading link) Asking l goes linked = absurd (false≢true goes)
linked_way Ending Onward l goes linked = absurd (false≢true goes)
linked_way Ending Asking l goes linked = absurd (false≢true goes)
linked_way Ending (Reading on) l goes linked = absurd (false≢true goes)

-- what stays as it was goes on
pub goes_same : (w : Way) → IsTrue (goes_on w w)
goes_same Onward = refl
goes_same Asking = refl
goes_same (Reading link) = grind arith
goes_same Ending = refl

pub linked_on : (m n : Kept) → line n ≡ line m → IsTrue (goes_on (way m.stage) (way n.stage)) → IsLinked m → IsLinked n
linked_on m n same goes linked = subst (IsLinkedOn (way n.stage)) (sym same) (linked_way (way m.stage) (way n.stage) (line m) goes linked)

pub driven_same : (m n : Kept) (opened : List LinkName) (dials : Option (List Dial)) → line n ≡ line m → IsTrue (goes_on (way m.stage) (way n.stage)) → IsLinked m → IsOnlyLink (line m) opened → AreDialsOf (line m) dials
    → IsDriven m n opened opened dials
driven_same m n opened dials same goes linked only dialed = record {
  number = ap (λ (l : Line). l.number) same;
  seed = ap (λ (l : Line). l.seed) same;
  linked = linked_on m n same goes linked;
  only = subst (λ l. IsOnlyLink l opened) (sym same) only;
  dialed = subst (λ l. AreDialsOf l dials) (sym same) dialed;
  others = refl;
}

pub driven_then : (m n k : Kept) (first second third : List LinkName) (dials more : Option (List Dial)) → IsDriven m n first second dials → IsDriven n k second third more → IsDriven m k first third more
driven_then m n k first second third dials more a b = record {
  number = b.number ∙ a.number;
  seed = b.seed ∙ a.seed;
  linked = b.linked;
  only = b.only;
  dialed = b.dialed;
  others = subst (λ r. of_others r third ≡ of_others r second) a.number b.others ∙ a.others;
}

-- THE NEXT LINK

pub free_link : (m : Kept) → m.stage ≡ Go → m.is_dialed ≡ false → IsLinked m → m.link ≡ None
free_link m same undialed linked = at m.link (((subst (λ w. IsLinkedOn w (line m)) (ap way same) linked).0) ∙ undialed)
  where
    at : (o : Option LinkName) → is_some o ≡ false → o ≡ None
    at None e = refl
    at (Some link) e = absurd (false≢true (sym e))

pub next_closed : (m : Kept) (opened : List LinkName) → m.link ≡ None → IsOnlyLink (line m) opened → has_link (next_link m) opened ≡ false
next_closed m opened none only = only.only (m.links + 1) ∙ ap (λ o. unwrap_or (option_map (λ (link : LinkName). link.nth == m.links + 1) o) false) none

pub next_fresh : (m : Kept) (dials : Option (List Dial)) → AreDialsOf (line m) dials → IsUndialed (next_link m) dials
next_fresh m dials dialed = dialed (m.links + 1) (omega arith)

-- the machine's link is open
pub link_open : (m : Kept) (opened : List LinkName) → is_some m.link ≡ true → IsOnlyLink (line m) opened → IsLinkOpen m.link opened
link_open m opened some only = at m.link some only.last (only.only m.links)
  where
    at : (o : Option LinkName) → is_some o ≡ true → IfSome o (λ link. link ≡ nth_link (line m) m.links) → has_link (nth_link (line m) m.links) opened ≡ unwrap_or (option_map (λ link. link.nth == m.links) o) false → IsLinkOpen o opened
    at None e last is = absurd (false≢true e)
    at (Some link) e last is = subst (λ x. has_link x opened ≡ true) (sym last) (is ∙ ap (λ (x : LinkName). x.nth == m.links) last ∙ self m.links)
      where
        self : (n : ℕ) → (n == n) ≡ true
        self n = grind arith

pub link_kept : (m : Kept) (opened : List LinkName) → IsOnlyLink (line m) opened → IsLinkKept m.link opened
link_kept m opened only = at m.link refl
  where
    at : (o : Option LinkName) → m.link ≡ o → IsLinkKept o opened
    at None e = tt
    at (Some link) e = subst (λ o. IsLinkOpen o opened) e (link_open m opened (ap is_some e) only)

-- A LINK MORE

same_nth : (r a b : ℕ) → same_link (record { request = r; nth = a }) (record { request = r; nth = b }) ≡ (a == b)
same_nth r a b = grind (arith, common_steps)

has_more : (x y : LinkName) (opened : List LinkName) → has_link x (opened ++ y ∷ []) ≡ (has_link x opened || same_link y x)
has_more x y [] = at (same_link y x)
  where
    at : (b : Bool) → (b || false) ≡ b
    at true = refl
    at false = refl
has_more x y (z ∷ opened) = ap (λ b. same_link z x || b) (has_more x y opened) ∙ at (same_link z x)
  where
    at : (b : Bool) → (b || (has_link x opened || same_link y x)) ≡ ((b || has_link x opened) || same_link y x)
    at true = refl
    at false = refl

self_equal : (n : ℕ) → (n == n) ≡ true
self_equal n = grind arith

own_more : (r n : ℕ) (opened : List LinkName) → of_others r (opened ++ record { request = r; nth = n } ∷ []) ≡ of_others r opened
own_more r n [] = ap (λ b. if not b then record { request = r; nth = n } ∷ [] else []) (self_equal r)
own_more r n (z ∷ opened) = ap (λ xs. if not (z.request == r) then z ∷ xs else xs) (own_more r n opened)

has_no_more : (x y : LinkName) (to : Origin) (xs : List Dial) → same_link y x ≡ false → has_dial x xs ≡ false → has_dial x (xs ++ record { link = y; to = to } ∷ []) ≡ false
has_no_more x y to [] other e = ap (λ b. b || false) other
has_no_more x y to (d ∷ xs) other e = by (same_link d.link x) e (λ k. has_no_more x y to xs other k)
  where
    by : (b : Bool) → (b || has_dial x xs) ≡ false → (has_dial x xs ≡ false → has_dial x (xs ++ record { link = y; to = to } ∷ []) ≡ false) → (b || has_dial x (xs ++ record { link = y; to = to } ∷ [])) ≡ false
    by true k f = absurd (false≢true (sym k))
    by false k f = f k

undialed_more : (x y : LinkName) (to : Origin) (dials : Option (List Dial)) → IsUndialed x dials → same_link y x ≡ false → IsUndialed x (grown dials (record { link = y; to = to } ∷ []))
undialed_more x y to None fresh other = tt
undialed_more x y to (Some dials) fresh other = has_no_more x y to dials other fresh

-- the next link was dialed
pub driven_dialed : (m n : Kept) (to : Origin) (opened : List LinkName) (dials : Option (List Dial)) → m.stage ≡ Go → n.stage ≡ Go
    → line n ≡ record (line m) { links = m.links + 1; is_dialed = true; link = Some (next_link m) } → m.link ≡ None
    → IsLinked m → IsOnlyLink (line m) opened → AreDialsOf (line m) dials
    → IsDriven m n opened (opened ++ next_link m ∷ []) (grown dials (record { link = next_link m; to = to } ∷ []))
driven_dialed m n to opened dials was now same none linked only dialed = record {
  number = ap (λ (l : Line). l.number) same;
  seed = ap (λ (l : Line). l.seed) same;
  linked = subst (λ w. IsLinkedOn w (line n)) (sym (ap way now)) (subst (IsLinkedOn Onward) (sym same) (refl, (subst (λ w. IsLinkedOn w (line m)) (ap way was) linked).1));
  only = subst (λ l. IsOnlyLink l (opened ++ next_link m ∷ [])) (sym same) (record {
    last = refl;
    only = λ k. has_more (nth_link (line m) k) (next_link m) opened ∙ ap (λ b. b || same_link (next_link m) (nth_link (line m) k)) (only.only k ∙ ap (λ o. unwrap_or (option_map (λ (link : LinkName). link.nth == k) o) false) none) ∙ same_nth m.number (m.links + 1) k;
  });
  dialed = subst (λ l. AreDialsOf l (grown dials (record { link = next_link m; to = to } ∷ []))) (sym same) (λ k later.
      undialed_more (nth_link (line m) k) (next_link m) to dials (dialed k (omega arith)) (same_nth m.number (m.links + 1) k ∙ less k later));
  others = own_more m.number (m.links + 1) opened;
}
  where
    less : (k : ℕ) → m.links + 1 < k → (m.links + 1 == k) ≡ false
    less k later = grind (arith, later)

-- A LINK LESS

same_names : (a b : LinkName) → same_link a b ≡ true → a ≡ b
same_names a b same = grind (arith, common_steps)

same_gone : (x y : LinkName) (xs : List LinkName) → x ≡ y → has_link x (without_link y xs) ≡ false
same_gone x y [] e = refl
same_gone x y (z ∷ xs) e = by (same_link z y) refl (same_gone x y xs e)
  where
    by : (b : Bool) → same_link z y ≡ b → has_link x (without_link y xs) ≡ false → has_link x (if not b then z ∷ without_link y xs else without_link y xs) ≡ false
    by true k f = f
    by false k f = ap (λ b. b || has_link x (without_link y xs)) (ap (same_link z) e ∙ k) ∙ f

none_gone : (x y : LinkName) (xs : List LinkName) → has_link x xs ≡ false → has_link x (without_link y xs) ≡ false
none_gone x y [] e = refl
none_gone x y (z ∷ xs) e = by (same_link z x) e (same_link z y) refl (λ k. none_gone x y xs k)
  where
    by : (b : Bool) → (b || has_link x xs) ≡ false → (c : Bool) → same_link z x ≡ b → (has_link x xs ≡ false → has_link x (without_link y xs) ≡ false) → has_link x (if not c then z ∷ without_link y xs else without_link y xs) ≡ false
    by true k c w f = absurd (false≢true (sym k))
    by false k true w f = f k
    by false k false w f = ap (λ b. b || has_link x (without_link y xs)) w ∙ f k

has_less : (x y : LinkName) (opened : List LinkName) → has_link x opened ≡ same_link y x → has_link x (without_link y opened) ≡ false
has_less x y opened is = at (same_link y x) refl
  where
    at : (b : Bool) → same_link y x ≡ b → has_link x (without_link y opened) ≡ false
    at true k = same_gone x y opened (sym (same_names y x k))
    at false k = none_gone x y opened (is ∙ k)

of_request : (a b : LinkName) → same_link a b ≡ true → (a.request == b.request) ≡ true
of_request a b same = ap (λ (x : LinkName). x.request == b.request) (same_names a b same) ∙ self_equal b.request

own_less : (y : LinkName) (opened : List LinkName) → of_others y.request (without_link y opened) ≡ of_others y.request opened
own_less y [] = refl
own_less y (z ∷ opened) = by (same_link z y) refl (own_less y opened)
  where
    by : (b : Bool) → same_link z y ≡ b → of_others y.request (without_link y opened) ≡ of_others y.request opened
        → of_others y.request (if not b then z ∷ without_link y opened else without_link y opened) ≡ (if not (z.request == y.request) then z ∷ of_others y.request opened else of_others y.request opened)
    by false k f = ap (λ xs. if not (z.request == y.request) then z ∷ xs else xs) f
    by true k f = f ∙ sym (ap (λ b. if not b then z ∷ of_others y.request opened else of_others y.request opened) (of_request z y k))

-- the line without its link
abbrev pub closed_line : Line → Line
closed_line l = record l { link = None }

closed_only : (l : Line) (opened : List LinkName) → IsOnlyLink l opened → IsOnlyLink (closed_line l) (opened_without l.link opened)
closed_only l opened only = record { last = tt; only = λ k. at k l.link only.last (only.only k) }
  where
    at : (k : ℕ) (o : Option LinkName) → IfSome o (λ link. link ≡ nth_link l l.links) → has_link (nth_link l k) opened ≡ unwrap_or (option_map (λ link. link.nth == k) o) false → has_link (nth_link l k) (opened_without o opened) ≡ false
    at k None last is = is
    at k (Some link) last is = has_less (nth_link l k) link opened (is ∙ ap (λ (x : LinkName). x.nth == k) last ∙ sym (same_nth l.number l.links k) ∙ ap (λ x. same_link x (nth_link l k)) (sym last))

closed_others : (l : Line) (opened : List LinkName) → IsOnlyLink l opened → of_others l.number (opened_without l.link opened) ≡ of_others l.number opened
closed_others l opened only = at l.link only.last
  where
    at : (o : Option LinkName) → IfSome o (λ link. link ≡ nth_link l l.links) → of_others l.number (opened_without o opened) ≡ of_others l.number opened
    at None last = refl
    at (Some link) last = subst (λ r. of_others r (without_link link opened) ≡ of_others r opened) (ap (λ (x : LinkName). x.request) last) (own_less link opened)

-- the link was closed
pub driven_closed : (m n : Kept) (opened : List LinkName) (dials : Option (List Dial)) → line n ≡ closed_line (line m) → IsLinkedOn (way n.stage) (closed_line (line m))
    → IsOnlyLink (line m) opened → AreDialsOf (line m) dials → IsDriven m n opened (opened_without m.link opened) dials
driven_closed m n opened dials same linked only dialed = record {
  number = ap (λ (l : Line). l.number) same;
  seed = ap (λ (l : Line). l.seed) same;
  linked = subst (IsLinkedOn (way n.stage)) (sym same) linked;
  only = subst (λ l. IsOnlyLink l (opened_without m.link opened)) (sym same) (closed_only (line m) opened only);
  dialed = subst (λ l. AreDialsOf l dials) (sym same) dialed;
  others = closed_others (line m) opened only;
}

-- A HEAD AND ITS REPLY

-- the next head was written
pub driven_headed : (m n : Kept) (link : ℕ) (before opened : List LinkName) (dials_before dials : Option (List Dial)) → m.stage ≡ Go → n.stage ≡ Read link → m.is_dialed ≡ true
    → link ≡ m.links → line n ≡ record (line m) { is_dialed = false } → opened ≡ before → dials ≡ dials_before
    → IsLinked m → IsOnlyLink (line m) before → AreDialsOf (line m) dials_before → IsDriven m n before opened dials
driven_headed m n link before opened dials_before dials was now dialed last same unopened undialed linked only all =
    let on : IsLinkedOn Onward (line m) = subst (λ w. IsLinkedOn w (line m)) (ap way was) linked in
    record {
      number = ap (λ (l : Line). l.number) same;
      seed = ap (λ (l : Line). l.seed) same;
      linked = subst (λ w. IsLinkedOn w (line n)) (sym (ap way now)) (subst (IsLinkedOn (Reading link)) (sym same) (on.0 ∙ dialed, refl, on.1, last));
      only = subst (λ o. IsOnlyLink (line n) o) (sym unopened) (subst (λ l. IsOnlyLink l before) (sym same) (record { last = only.last; only = only.only }));
      dialed = subst (λ d. AreDialsOf (line n) d) (sym undialed) (subst (λ l. AreDialsOf l dials_before) (sym same) all);
      others = ap (of_others m.number) unopened;
    }

pub reading_open : (m : Kept) (link : ℕ) (opened : List LinkName) → m.stage ≡ Read link → IsLinked m → IsOnlyLink (line m) opened → IsLinkOpen m.link opened
reading_open m link opened was linked only = link_open m opened (subst (λ w. IsLinkedOn w (line m)) (ap way was) linked).0 only

pub reading_undialed : (m : Kept) (link : ℕ) → m.stage ≡ Read link → IsLinked m → m.is_dialed ≡ false
reading_undialed m link was linked = (subst (λ w. IsLinkedOn w (line m)) (ap way was) linked).1

away_linked : (w : Way) (link : ℕ) (l : Line) → IsTrue (is_away w) → IsLinkedOn (Reading link) l → IsLinkedOn w (closed_line l)
away_linked Onward link l away on = (sym on.1, on.2)
away_linked Ending link l away on = tt
away_linked Asking link l away on = absurd (false≢true away)
away_linked (Reading other) link l away on = absurd (false≢true away)

-- the link was closed behind a reading
pub driven_read : (m k n : Kept) (link : ℕ) (before opened : List LinkName) (dials_before dials : Option (List Dial)) → m.stage ≡ Read link → k ≡ record m { link = None } → line n ≡ line k
    → IsTrue (is_away (way n.stage)) → opened ≡ opened_without m.link before → dials ≡ dials_before
    → IsLinked m → IsOnlyLink (line m) before → AreDialsOf (line m) dials_before → IsDriven m n before opened dials
driven_read m k n link before opened dials_before dials was closed same away unopened undialed linked only all =
    subst (λ d. IsDriven m n before opened d) (sym undialed)
    (subst (λ o. IsDriven m n before o dials_before) (sym unopened)
    (driven_closed m n before dials_before (same ∙ ap line closed) (away_linked (way n.stage) link (line m) away (subst (λ w. IsLinkedOn w (line m)) (ap way was) linked)) only all))

-- the user was asked
pub driven_asked : (m n : Kept) (p : Prompt) (ordinal : ℕ) (opened : List LinkName) (dials : Option (List Dial)) → m.stage ≡ Ask p ordinal → line n ≡ record (line m) { space = None; given = n.given }
    → IsTrue (is_away (way n.stage)) → IsLinked m → IsOnlyLink (line m) opened → AreDialsOf (line m) dials → IsDriven m n opened opened dials
driven_asked m n p ordinal opened dials was same away linked only all = record {
  number = ap (λ (l : Line). l.number) same;
  seed = ap (λ (l : Line). l.seed) same;
  linked = subst (IsLinkedOn (way n.stage)) (sym same) (at (way n.stage) away (subst (λ w. IsLinkedOn w (line m)) (ap way was) linked));
  only = subst (λ l. IsOnlyLink l opened) (sym same) (record { last = only.last; only = only.only });
  dialed = subst (λ l. AreDialsOf l dials) (sym same) all;
  others = refl;
}
  where
    at : (w : Way) → IsTrue (is_away w) → is_some m.link ≡ m.is_dialed → IsLinkedOn w (record (line m) { space = None; given = n.given })
    at Onward away on = (on, refl)
    at Ending away on = tt
    at Asking away on = absurd (false≢true away)
    at (Reading link) away on = absurd (false≢true away)

-- BY WHAT A DIALER TELLS

ending_linked : (w : Way) (l : Line) → is_ending w ≡ true → IsLinkedOn w l
ending_linked Ending l e = tt
ending_linked Onward l e = absurd (false≢true e)
ending_linked Asking l e = absurd (false≢true e)
ending_linked (Reading link) l e = absurd (false≢true e)

-- a link that is still open at the end was closed
pub driven_settled : (m n : Kept) (before opened : List LinkName) (dials_before dials : Option (List Dial)) → n ≡ record m { link = None } → is_ending (way m.stage) ≡ true
    → opened ≡ opened_without m.link before → dials ≡ dials_before → IsOnlyLink (line m) before → AreDialsOf (line m) dials_before → IsDriven m n before opened dials
driven_settled m n before opened dials_before dials closed ends unopened undialed only all =
    subst (λ d. IsDriven m n before opened d) (sym undialed)
    (subst (λ o. IsDriven m n before o dials_before) (sym unopened)
    (driven_closed m n before dials_before (ap line closed) (ending_linked (way n.stage) (closed_line (line m)) (ap (λ (v : Kept). is_ending (way v.stage)) closed ∙ ends)) only all))

-- what goes on with its line, where the dialer tells the same
pub driven_still : (m n : Kept) (before opened : List LinkName) (dials_before dials : Option (List Dial)) → line n ≡ line m → IsTrue (goes_on (way m.stage) (way n.stage)) → opened ≡ before → dials ≡ dials_before
    → IsLinked m → IsOnlyLink (line m) before → AreDialsOf (line m) dials_before → IsDriven m n before opened dials
driven_still m n before opened dials_before dials same goes unopened undialed linked only all =
    subst (λ d. IsDriven m n before opened d) (sym undialed)
    (subst (λ o. IsDriven m n before o dials_before) (sym unopened)
    (driven_same m n before dials_before same goes linked only all))

-- a dial that gave no link
pub driven_undialed : (m n : Kept) (before opened : List LinkName) (dials_before dials : Option (List Dial)) → line n ≡ line m → IsTrue (goes_on (way m.stage) (way n.stage)) → opened ≡ before ++ [] → dials ≡ grown dials_before []
    → IsLinked m → IsOnlyLink (line m) before → AreDialsOf (line m) dials_before → IsDriven m n before opened dials
driven_undialed m n before opened dials_before dials same goes unopened undialed linked only all =
    driven_still m n before opened dials_before dials same goes (unopened ∙ append-nil before) (undialed ∙ grown_none dials_before) linked only all

-- a dial that gave one
pub driven_given : (m k n : Kept) (name link : LinkName) (to : Origin) (before opened : List LinkName) (dials_before dials : Option (List Dial)) → m.stage ≡ Go → m.is_dialed ≡ false → name ≡ next_link m → link ≡ name
    → k ≡ record m { link = Some link } → n.stage ≡ Go → line n ≡ record (line k) { links = k.links + 1; is_dialed = true } → opened ≡ before ++ name ∷ [] → dials ≡ grown dials_before (record { link = name; to = to } ∷ [])
    → IsLinked m → IsOnlyLink (line m) before → AreDialsOf (line m) dials_before → IsDriven m n before opened dials
driven_given m k n name link to before opened dials_before dials was undialed named given kept now lined opens tells linked only all =
    subst (λ d. IsDriven m n before opened d) (sym (tells ∙ ap (λ x. grown dials_before (record { link = x; to = to } ∷ [])) named))
    (subst (λ o. IsDriven m n before o (grown dials_before (record { link = next_link m; to = to } ∷ []))) (sym (opens ∙ ap (λ x. before ++ x ∷ []) named))
    (driven_dialed m n to before dials_before was now
    (lined ∙ ap (λ (v : Kept). record (line v) { links = v.links + 1; is_dialed = true }) kept ∙ ap (λ x. record (line m) { links = m.links + 1; is_dialed = true; link = Some x }) (given ∙ named))
    (free_link m was undialed linked) linked only all))

-- a head that was written, and what came of it
pub driven_behind : (m k n : Kept) (link : ℕ) (before opened : List LinkName) (dials_before dials : Option (List Dial)) → m.stage ≡ Go → k.stage ≡ Read link → m.is_dialed ≡ true → link ≡ m.links
    → line k ≡ record (line m) { is_dialed = false } → line n ≡ line k → IsTrue (goes_on (way k.stage) (way n.stage)) → opened ≡ before → dials ≡ dials_before
    → IsLinked m → IsOnlyLink (line m) before → AreDialsOf (line m) dials_before → IsDriven m n before opened dials
driven_behind m k n link before opened dials_before dials was now dialed last lined same goes unopened undialed linked only all =
    let first = driven_headed m k link before opened dials_before dials was now dialed last lined unopened undialed linked only all in
    driven_then m k n before opened opened dials dials first (driven_same k n opened dials same goes first.linked first.only first.dialed)

-- a reading, and the link's close behind it
pub driven_reading : (m same k n : Kept) (link : ℕ) (before between opened : List LinkName) (dials_before dials_between dials : Option (List Dial)) → m.stage ≡ Read link → same ≡ m → k ≡ record same { link = None } → line n ≡ line k
    → IsTrue (is_away (way n.stage)) → between ≡ before → opened ≡ opened_without same.link between → dials_between ≡ dials_before → dials ≡ dials_between
    → IsLinked m → IsOnlyLink (line m) before → AreDialsOf (line m) dials_before → IsDriven m n before opened dials
driven_reading m same k n link before between opened dials_before dials_between dials was unchanged closed lined away first unopened told undialed linked only all =
    driven_read m k n link before opened dials_before dials was (closed ∙ ap (λ (v : Kept). record v { link = None }) unchanged) lined away
    (unopened ∙ ap (λ (v : Kept). opened_without v.link between) unchanged ∙ ap (opened_without m.link) first) (undialed ∙ told) linked only all

-- TURNS

some_left : (stage : Stage) → 0 < turns_at stage
some_left (Learn t piece) = omega arith
some_left (NextNonce Proxy c) = omega arith
some_left _ = omega arith

two_at_most : (stage : Stage) → turns_at stage ≤ 2
two_at_most (Learn t piece) = omega arith
two_at_most (NextNonce Proxy c) = omega arith
two_at_most _ = omega arith

-- what is left where nothing is asked
idle_left : (m : Kept) → is_asking m ≡ false → turns_left m ≡ (256 - length m.past) * 2 + turns_at m.stage
idle_left m idle = ap (λ b. if b then 0 else (256 - length m.past) * 2 + turns_at m.stage) idle

most_left : (m : Kept) → turns_left m ≤ (256 - length m.past) * 2 + 2
most_left m = by (is_asking m) ((256 - length m.past) * 2) (turns_at m.stage) (two_at_most m.stage)
  where
    by : (b : Bool) (k t : ℕ) → t ≤ 2 → (if b then 0 else k + t) ≤ k + 2
    by true k t few = omega arith
    by false k t few = omega (arith, few)

-- a machine that asks has no turn left
pub asks_nearer : (m n : Kept) → is_asking n ≡ true → is_asking m ≡ false → turns_left n < turns_left m
asks_nearer m n asks idle =
    let none : turns_left n ≡ 0 = ap (λ b. if b then 0 else (256 - length n.past) * 2 + turns_at n.stage) asks in
    let left : turns_left m ≡ (256 - length m.past) * 2 + turns_at m.stage = idle_left m idle in
    let some : 0 < turns_at m.stage = some_left m.stage in
    omega (arith, none, left, some)

-- an event was made
pub pushed_nearer : (m n : Kept) (event : Event) → n.past ≡ event ∷ m.past → length m.past < 256 → is_asking m ≡ false → turns_left n < turns_left m
pushed_nearer m n event is few idle =
    let left : turns_left m ≡ (256 - length m.past) * 2 + turns_at m.stage = idle_left m idle in
    let some : 0 < turns_at m.stage = some_left m.stage in
    let most : turns_left n ≤ (256 - length n.past) * 2 + 2 = most_left n in
    let longer : length n.past ≡ length (event ∷ m.past) = ap length is in
    omega (arith, left, some, most, longer, few)

-- the stage alone changed
pub staged_nearer : (m n : Kept) → n.past ≡ m.past → is_asking m ≡ false → is_asking n ≡ false → turns_at n.stage < turns_at m.stage → turns_left n < turns_left m
staged_nearer m n same idle still less =
    let before : turns_left m ≡ (256 - length m.past) * 2 + turns_at m.stage = idle_left m idle in
    let after : turns_left n ≡ (256 - length m.past) * 2 + turns_at n.stage = idle_left n still ∙ ap (λ past. (256 - length past) * 2 + turns_at n.stage) same in
    omega (arith, before, after, less)

-- a machine that learns of what it holds asks
pub learns : (m : Kept) (t : Target) (piece : Piece) → IsLacking piece (holding m t) → is_asking (record m { stage = Learn t piece }) ≡ true
learns m t piece lack = at (holding m t) lack
  where
    at : (o : Option Holding) → IsLacking piece o → is_some (option_map (need_of piece) o) ≡ true
    at None e = absurd e
    at (Some h) e = refl

-- what follows a renewal at the end is at the end
pub behind_ends : (before : Way) (t : Target) (c : Closing) → IsTrue (goes_on before (way (stage_behind t c)))
behind_ends before Proxy c = refl
behind_ends before Server c = refl
behind_ends before Socks c = refl

-- and it is nearer
behind_at : (m n : Kept) (t : Target) (c : Closing) → n.past ≡ m.past → n.stage ≡ stage_behind t c → is_asking m ≡ false → m.stage ≡ NextNonce t c → turns_left n < turns_left m
behind_at m n Proxy c same now idle was =
    let after : turns_at n.stage ≡ 1 = ap turns_at now in
    let before : turns_at m.stage ≡ 2 = ap turns_at was in
    staged_nearer m n same idle (ap (λ st. is_some (need_at n st)) now) (omega (arith, after, before))
behind_at m n Server c same now idle was = asks_nearer m n (ap (λ st. is_some (need_at n st)) now) idle
behind_at m n Socks c same now idle was = asks_nearer m n (ap (λ st. is_some (need_at n st)) now) idle

pub behind_nearer : (m n : Kept) (t : Target) (c : Closing) → n.past ≡ m.past → n.stage ≡ stage_behind t c → m.stage ≡ NextNonce t c → turns_left n < turns_left m
behind_nearer m n t c same now was = behind_at m n t c same now (ap (λ st. is_some (need_at m st)) was) was

pub next_nearer : (m n : Kept) (t : Target) (c : Closing) → is_asking n ≡ true → m.stage ≡ NextNonce t c → turns_left n < turns_left m
next_nearer m n t c asks was = asks_nearer m n asks (ap (λ st. is_some (need_at m st)) was)
