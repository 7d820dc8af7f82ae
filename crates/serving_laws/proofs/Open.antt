-- Where one caller serves a request no prompt of the history is open but its own, so it never follows one.
use Rattle.std.proofs.Common.{◌≡◌, ℕ, Bool, true, false, not, ◌&&◌, ◌||◌, ◌==◌, cond, IsTrue, List, [], ◌∷◌, ◌++◌, Option, Some, None, option_map, unwrap_or, refl, sym, ap, ◌∙◌, subst, find}
use Rattle.std.specs.List.{list_any}
use Rattle.std.proofs.lemmas.Bool.{false≢true}
use Rattle.spaces.specs.declared.roster.Request.{Request}
use Rattle.spaces.specs.declared.roster.Roster.{Roster}
use Rattle.auth_events.specs.declared.journal.Call.{Call}
use Rattle.auth_events.specs.declared.journal.Call.TheVariants.{Select, Take}
use Rattle.auth_events.specs.declared.journal.BookReply.{BookReply}
use Rattle.auth_events.specs.declared.journal.BookReply.TheVariants.{Follow}
use Rattle.auth_events.specs.declared.journal.Entry.{Entry}
use Rattle.auth_events.specs.declared.journal.Gift.{Gift}
use Rattle.auth_events.specs.Past.{current, is_lead, open_lead, prompt_followed, prompt_led, selects, settled}
use Rattle.auth_events.specs.Book.{IsLegalPast, IsStep, allowed, allowed_call, answer, first_choice, fits_space, has_url_identity, is_allowed_origin, is_negotiate, is_open, is_rival, is_server, is_site_of, own, scheme_is, select_answer, space_named, takes, target_of, waits, was_default_told, was_url_told}
use Rattle.auth_events.specs.Tables.{Tables}
use Rattle.auth_events.proofs.Numbers.{and_left, and_right}
use Rattle.auth_events.proofs.Same.{number_same}
use Rattle.auth_runs.specs.declared.event.Event.{Event}
use Rattle.auth_runs.specs.declared.event.Event.TheVariants.{Called}
use Rattle.serving_laws.specs.Alone.{IsAlone, entries_of, has_open_prompt}
use Rattle.serving_laws.proofs.Entries.{own_are}

-- TESTS OVER LISTS

any_of_both : {A : Type 0} (f : A → Bool) (xs ys : List A) → list_any f xs ≡ false → list_any f ys ≡ false → list_any f (xs ++ ys) ≡ false
any_of_both f [] ys none also = also
any_of_both f (x ∷ xs) ys none also = at (f x) refl (λ k. any_of_both f xs ys k also) none
  where
    at : (b : Bool) → f x ≡ b → (list_any f xs ≡ false → list_any f (xs ++ ys) ≡ false) → (b || list_any f xs) ≡ false → (f x || list_any f (xs ++ ys)) ≡ false
    at true e later k = absurd (false≢true (sym k))
    at false e later k = ap (λ b. b || list_any f (xs ++ ys)) e ∙ later k

none_of_fewer : {A : Type 0} (p q : A → Bool) → ((x : A) → p x ≡ false → q x ≡ false) → (xs : List A) → list_any p xs ≡ false → list_any q xs ≡ false
none_of_fewer p q fewer [] none = refl
none_of_fewer p q fewer (x ∷ xs) none = at (p x) refl (λ k. none_of_fewer p q fewer xs k) none
  where
    at : (b : Bool) → p x ≡ b → (list_any p xs ≡ false → list_any q xs ≡ false) → (b || list_any p xs) ≡ false → (q x || list_any q xs) ≡ false
    at true e later k = absurd (false≢true (sym k))
    at false e later k = ap (λ b. b || list_any q xs) (fewer x e) ∙ later k

none_found : {A : Type 0} (p q : A → Bool) → ((x : A) → p x ≡ false → q x ≡ false) → (xs : List A) → list_any p xs ≡ false → find q xs ≡ None
none_found p q fewer [] none = refl
none_found p q fewer (x ∷ xs) none = at (p x) refl (λ k. none_found p q fewer xs k) none
  where
    at : (b : Bool) → p x ≡ b → (list_any p xs ≡ false → find q xs ≡ None) → (b || list_any p xs) ≡ false → cond (q x) (Some x) (find q xs) ≡ None
    at true e later k = absurd (false≢true (sym k))
    at false e later k = ap (λ b. cond b (Some x) (find q xs)) (fewer x e) ∙ later k

or_none : (a b : Bool) → (a || b) ≡ false → a ≡ false
or_none true b h = absurd (false≢true (sym h))
or_none false b h = refl

not_true : (b : Bool) → IsTrue (not b) → b ≡ false
not_true true h = absurd (false≢true h)
not_true false h = refl

-- PROMPTS OF THE HISTORY BEFORE

settled_still : (later before : List Entry) (p : ℕ) → IsTrue (settled before p) → IsTrue (settled (later ++ before) p)
settled_still [] before p done = done
settled_still (entry ∷ later) before p done = at _ (settled_still later before p done)
  where
    at : (a : Bool) → IsTrue (settled (later ++ before) p) → IsTrue (a || settled (later ++ before) p)
    at true h = refl
    at false h = h

abbrev is_open_in : List Entry → Entry → Bool
is_open_in whole entry = is_lead entry.reply && not (settled whole (prompt_led entry.reply))

closed_still : (later before : List Entry) (entry : Entry) → is_open_in before entry ≡ false → is_open_in (later ++ before) entry ≡ false
closed_still later before entry closed =
    at (is_lead entry.reply) (settled before (prompt_led entry.reply)) (settled (later ++ before) (prompt_led entry.reply)) (settled_still later before (prompt_led entry.reply)) closed
  where
    at : (a b c : Bool) → (IsTrue b → IsTrue c) → (a && not b) ≡ false → (a && not c) ≡ false
    at false b c more k = refl
    at true true c more k = ap not (more refl)
    at true false c more k = absurd (false≢true (sym k))

module _ (roster : Roster) (names : Tables) (before : List Entry) (r : ℕ) (request : Request) where
  -- where the request waits for nothing, no prompt is open
  pub closed_all : (entries : List Entry) (past : List Event) → IsAlone roster names before entries r request past → waits entries r ≡ false → has_open_prompt entries ≡ false
  closed_all entries past alone still =
      subst (λ (l : List Entry). list_any (is_open_in l) l ≡ false) (sym alone.same_calls)
      (any_of_both (is_open_in (entries_of r past ++ before)) (entries_of r past) before mine
      (none_of_fewer (is_open_in before) (is_open_in (entries_of r past ++ before)) (closed_still (entries_of r past) before) before alone.none_open))
    where
      mine : list_any (is_open_in (entries_of r past ++ before)) (entries_of r past) ≡ false
      mine =
          subst (λ (l : List Entry). list_any (is_open_in l) (entries_of r past) ≡ false) alone.same_calls
          (subst (λ (l : List Entry). list_any (is_open_in entries) l ≡ false) (own_are roster names before entries r request past alone)
          (or_none (list_any (is_open_in entries) (own entries r)) (list_any (λ entry. not (prompt_followed entry.reply == 0) && not (list_any (λ later. takes later.call (prompt_followed entry.reply)) (own entries r))) (own entries r)) still))

  -- only its calls matter
  pub alike : (entries : List Entry) (past other : List Event) → entries_of r past ≡ entries_of r other → IsAlone roster names before entries r request past → IsAlone roster names before entries r request other
  alike entries past other same alone = record {
    legal = alone.legal;
    are_names = alone.are_names;
    in_roster = alone.in_roster;
    same_calls = alone.same_calls ∙ ap (λ (l : List Entry). l ++ before) same;
    unserved = alone.unserved;
    none_open = alone.none_open;
  }

  -- the request before its last call
  pub earlier : (entries : List Entry) (call : Call) (reply : BookReply) (past : List Event) → IsAlone roster names before entries r request (Called call reply ∷ past)
      → IsAlone roster names before (entries_of r past ++ before) r request past × IsStep roster names (entries_of r past ++ before) (record { caller = 1; request = r; call = call; reply = reply })
  earlier entries call reply past alone =
      let legal = subst (λ (l : List Entry). IsLegalPast roster names l) alone.same_calls alone.legal in
      (record { legal = legal.0; are_names = alone.are_names; in_roster = alone.in_roster; same_calls = refl; unserved = alone.unserved; none_open = alone.none_open }, legal.1)

  -- FOLLOWING

  abbrev follows : BookReply → Bool
  follows (Follow prompt) = true
  follows _ = false

  never_followed : (rival : ℕ → Bool) (entries : List Entry) (s : ℕ) (url : Bool) (gift : Option Gift) (ambient : Bool) → follows (select_answer rival entries s (first_choice url gift ambient None)) ≡ false
  never_followed rival entries s true gift ambient = refl
  never_followed rival entries s false (Some gift) ambient = refl
  never_followed rival entries s false None true = refl
  never_followed rival entries s false None false = refl

  unfollowed : (rival : ℕ → Bool) (entries : List Entry) (s : ℕ) (url : Bool) (gift : Option Gift) (ambient : Bool) (o : Option Entry) → o ≡ None → follows (select_answer rival entries s (first_choice url gift ambient o)) ≡ false
  unfollowed rival entries s url gift ambient o none = ap (λ x. follows (select_answer rival entries s (first_choice url gift ambient x))) none ∙ never_followed rival entries s url gift ambient

  no_lead : (entries : List Entry) (s : ℕ) → has_open_prompt entries ≡ false → open_lead entries s ≡ None
  no_lead entries s none =
      none_found (is_open_in entries) (λ entry. is_lead entry.reply && selects entry.call s && not (settled entries (prompt_led entry.reply)))
      (λ entry closed. at (is_lead entry.reply) (selects entry.call s) (not (settled entries (prompt_led entry.reply))) closed) entries none
    where
      at : (a b c : Bool) → (a && c) ≡ false → (a && b && c) ≡ false
      at false b c k = refl
      at true true c k = k
      at true false c k = refl

  pub no_follow : (entries : List Entry) (call : Call) (p : ℕ) (past : List Event) → IsAlone roster names before entries r request (Called call (Follow p) ∷ past) → ⊥
  no_follow entries (Select space t) p past alone =
      let e = earlier entries (Select space t) (Follow p) past alone in
      let rest : List Entry = entries_of r past ++ before in
      let may : IsTrue (allowed_call roster names rest r (Select space t)) = and_right (is_open rest 1 r) (allowed_call roster names rest r (Select space t)) e.1.0 in
      let still : waits rest r ≡ false = not_true (waits rest r) (and_right (unwrap_or (option_map (is_site_of roster r) (space_named names space)) false && fits_space names space t) (not (waits rest r)) may) in
      let none : open_lead rest space ≡ None = no_lead rest space (closed_all rest past e.0 still) in
      let other : follows (answer roster names rest r (Select space t)) ≡ false =
      unfollowed (is_rival names space) rest space (is_server (target_of names space) && has_url_identity roster r && not (was_url_told rest r)) (current rest space)
      (scheme_is names is_negotiate space && is_allowed_origin roster names space && not (was_default_told rest r space)) (open_lead rest space) none in
      false≢true (sym other ∙ sym (ap follows e.1.1))
  no_follow entries call p past alone = false≢true ((earlier entries call (Follow p) past alone).1.2)

  -- so no entry of its follows
  none_followed : (entries : List Entry) (past : List Event) → IsAlone roster names before entries r request past → list_any (λ entry. not (prompt_followed entry.reply == 0)) (entries_of r past) ≡ false
  none_followed entries [] alone = refl
  none_followed entries (Called call (Follow p) ∷ past) alone = absurd (no_follow entries call p past alone)
  none_followed entries (Called call reply ∷ past) alone = none_followed (entries_of r past ++ before) past (earlier entries call reply past alone).0
  none_followed entries (event ∷ past) alone = none_followed entries past (alike entries (event ∷ past) past refl alone)

  -- and it takes no answer of another
  pub no_take : (entries : List Entry) (past : List Event) (p : ℕ) → IsAlone roster names before entries r request past → IsTrue (allowed roster names entries 1 r (Take p)) → ⊥
  no_take entries past p alone may =
      let call = and_right (is_open entries 1 r) (allowed_call roster names entries r (Take p)) may in
      let first = and_left (not (p == 0) && list_any (λ entry. prompt_followed entry.reply == p) (own entries r)) (not (list_any (λ entry. takes entry.call p) (own entries r))) call in
      let some : IsTrue (list_any (λ entry. prompt_followed entry.reply == p) (own entries r)) = and_right (not (p == 0)) (list_any (λ entry. prompt_followed entry.reply == p) (own entries r)) first in
      let nonzero : (p == 0) ≡ false = not_true (p == 0) (and_left (not (p == 0)) (list_any (λ entry. prompt_followed entry.reply == p) (own entries r)) first) in
      false≢true (sym (none_of_fewer (λ entry. not (prompt_followed entry.reply == 0)) (λ entry. prompt_followed entry.reply == p) (λ entry zero_is. by (prompt_followed entry.reply) nonzero (prompt_followed entry.reply == p) refl zero_is) (own entries r)
      (subst (λ (l : List Entry). list_any (λ entry. not (prompt_followed entry.reply == 0)) l ≡ false) (sym (own_are roster names before entries r request past alone)) (none_followed entries past alone))) ∙ some)
    where
      by : (q : ℕ) → (p == 0) ≡ false → (b : Bool) → (q == p) ≡ b → not (q == 0) ≡ false → b ≡ false
      by q some false e k = refl
      by q some true e k = absurd (false≢true (sym (subst (λ x. not (x == 0) ≡ false) (number_same q p e) k) ∙ ap not some))
