-- What was allowed to a caller stays allowed while others make entries and names.
use Rattle.std.proofs.Common.{◌≡◌, ℕ, Bool, true, false, not, ◌&&◌, ◌||◌, cond, List, [], ◌∷◌, ◌++◌, length, refl, ap, sym, subst, ◌∙◌, arith, Option, Some, None}
use Rattle.std.specs.Prelude.{All, IsTrue, ◌==◌, is_some, option_map, unwrap_or, filter, nat_le, nat_lt, reverse, reverse}
use Rattle.std.specs.List.{list_any, list_all, fold}
use Rattle.std.proofs.lemmas.Bool.{false≢true}
use Rattle.std.proofs.lemmas.List.{reverse-append, length-append}
use Rattle.std.proofs.lemmas.List.Sums.{fold-append}
use Rattle.std.proofs.lemmas.List.Elements.{All-head, All-tail, All-nil, All-cons, filter_map-append}
use Rattle.spaces.specs.Sites.{numbered, is_on_route}
use Rattle.spaces.specs.declared.roster.Roster.{Roster}
use Rattle.auth_events.specs.declared.journal.Entry.{Entry}
use Rattle.auth_events.specs.declared.journal.Call.{Call}
use Rattle.auth_events.specs.declared.journal.Call.TheVariants.{Begin, Preempt, Select, Reject, Renew, Answer, Lose, Take, Note, End, Draw}
use Rattle.auth_events.specs.declared.told.Told.{Told}
use Rattle.auth_events.specs.declared.told.Told.TheVariants.{Made, SpaceNamed, TermsNamed, TextNamed}
use Rattle.auth_events.specs.Tables.{Tables}
use Rattle.auth_events.specs.Past.{lead, settled, settles, is_lead, prompt_led, prompt_followed, selects}
use Rattle.auth_events.specs.Book.{IsLegal, IsLegalPast, draws, allowed, allowed_call, own, waits, is_led_by, is_open, no_entry, begins, ends, preempts, takes, is_default, is_that_gift, gift_told, terms_selected, is_site_of, space_named, fits_space, scheme_is, is_digest, is_basic, has_terms}
use Rattle.auth_events.specs.Told.{journal, past, names_told, with_told, entry_told, has_no_draw}
use Rattle.auth_events.proofs.Legal.{All-reverse}
use Rattle.auth_events.proofs.Numbers.{and_left, and_right, both, some_of_test}
use Rattle.auth_events.proofs.Same.{number_same, number_refl}
use Rattle.history_laws.proofs.Leading.{lead_stays}
use Rattle.auth_events.proofs.MoreNames.{Extends, allowed-more, extends_by_space, extends_by_terms, extends_by_text}
use Rattle.book_laws.specs.Owners.{owner, maker, items_of, IsOwned, IsOwnedItem}

-- WHAT STAYS OF A REQUEST'S ENTRIES

not_other : (a b : ℕ) → (a == b) ≡ false → a ≡ b → ⊥
not_other a b other same = false≢true (sym other ∙ subst (λ x. IsTrue (x == b)) (sym same) (number_refl b))

own_other : (entry : Entry) (past : List Entry) (r : ℕ) → (entry.request == r) ≡ false → own (entry ∷ past) r ≡ own past r
own_other entry past r other = ap (λ b. cond b (entry ∷ own past r) (own past r)) other

-- a test that fails no less often fails as well
none_of_fewer : (p q : Entry → Bool) → ((x : Entry) → p x ≡ false → q x ≡ false) → (xs : List Entry) → list_any p xs ≡ false → list_any q xs ≡ false
none_of_fewer p q fewer [] none = refl
none_of_fewer p q fewer (x ∷ xs) none = at (p x) (q x) refl (fewer x) none (none_of_fewer p q fewer xs)
  where
    at : (a b : Bool) → p x ≡ a → (p x ≡ false → b ≡ false) → (a || list_any p xs) ≡ false → (list_any p xs ≡ false → list_any q xs ≡ false) → (b || list_any q xs) ≡ false
    at true b is less gone rest = absurd (false≢true (sym gone))
    at false true is less gone rest = absurd (false≢true (sym (less is)))
    at false false is less gone rest = rest gone

or_none : (a b c d : Bool) → (a ≡ false → c ≡ false) → (b ≡ false → d ≡ false) → IsTrue (not (a || b)) → IsTrue (not (c || d))
or_none true b c d less fewer gone = absurd (false≢true gone)
or_none false true c d less fewer gone = absurd (false≢true gone)
or_none false false true d less fewer gone = absurd (false≢true (sym (less refl)))
or_none false false false true less fewer gone = absurd (false≢true (sym (fewer refl)))
or_none false false false false less fewer gone = refl

settled_more : (led more done : Bool) → (led && not done) ≡ false → (led && not (more || done)) ≡ false
settled_more true true true none = refl
settled_more true true false none = refl
settled_more true false true none = none
settled_more true false false none = none
settled_more false more done none = refl

waits_less : (entry : Entry) (past : List Entry) (r : ℕ) → (entry.request == r) ≡ false → IsTrue (not (waits past r)) → IsTrue (not (waits (entry ∷ past) r))
waits_less entry past r other free =
    subst (λ (o : List Entry). IsTrue (not (list_any (λ e. is_lead e.reply && not (settled (entry ∷ past) (prompt_led e.reply))) o || list_any (λ e. not (prompt_followed e.reply == 0) && not (list_any (λ later. takes later.call (prompt_followed e.reply)) o)) o)))
    (sym (own_other entry past r other))
    (or_none _ _ _ _
    (none_of_fewer (λ e. is_lead e.reply && not (settled past (prompt_led e.reply))) (λ e. is_lead e.reply && not (settled (entry ∷ past) (prompt_led e.reply)))
    (λ e none. settled_more (is_lead e.reply) (settles entry.call (prompt_led e.reply)) (settled past (prompt_led e.reply)) none) (own past r))
    (λ none. none) free)

-- PROMPTS

led_same : (o : Option Entry) (r q : ℕ) → IsTrue (unwrap_or (option_map (λ (e : Entry). e.request == r) o) false) → IsTrue (unwrap_or (option_map (λ (e : Entry). e.request == q) o) false) → q ≡ r
led_same None r q a b = absurd (false≢true a)
led_same (Some e) r q a b = sym (number_same e.request q b) ∙ number_same e.request r a

module _ (roster : Roster) (names : Tables) where
  -- a prompt is settled by the request that leads it
  settles_own : (past : List Entry) (r q p : ℕ) (call : Call) → IsTrue (allowed_call roster names past q call) → IsTrue (is_led_by past r p) → (q == r) ≡ false → settles call p ≡ false
  settles_own past r q p (Answer prompt text t) may led other = at (prompt == p) refl
    where
      this : IsTrue (is_led_by past q prompt)
      this = and_left (is_led_by past q prompt) (not (settled past prompt)) (and_left (is_led_by past q prompt && not (settled past prompt)) _ (and_left (is_led_by past q prompt && not (settled past prompt) && nat_le text _) _ may))

      at : (b : Bool) → (prompt == p) ≡ b → b ≡ false
      at true same = absurd (not_other q r other (led_same (lead past p) r q led (subst (λ n. IsTrue (is_led_by past q n)) (number_same prompt p same) this)))
      at false same = refl
  settles_own past r q p (Lose prompt loss) may led other = at (prompt == p) refl
    where
      at : (b : Bool) → (prompt == p) ≡ b → b ≡ false
      at true same = absurd (not_other q r other (led_same (lead past p) r q led (subst (λ n. IsTrue (is_led_by past q n)) (number_same prompt p same) (and_left (is_led_by past q prompt) (not (settled past prompt)) may))))
      at false same = refl
  settles_own past r q p call may led other = refl

  -- ONE ENTRY OF ANOTHER REQUEST

  module _ (entry : Entry) (past : List Entry) (legal : IsLegalPast roster names (entry ∷ past)) (r : ℕ) (other : (entry.request == r) ≡ false) where
    same_own : own past r ≡ own (entry ∷ past) r
    same_own = sym (own_other entry past r other)

    led_stays : (p : ℕ) → IsTrue (is_led_by past r p) → lead past p ≡ lead (entry ∷ past) p
    led_stays p led = sym (lead_stays roster names entry past legal p (some_of_test _ _ led))

    settled_stays : (p : ℕ) → IsTrue (is_led_by past r p) → settled past p ≡ settled (entry ∷ past) p
    settled_stays p led =
        ap (λ b. b || settled past p) (sym (settles_own past r entry.request p entry.call (and_right _ (allowed_call roster names past entry.request entry.call) legal.1.0) led other))

    keeps_call : (call : Call) → IsTrue (allowed_call roster names past r call) → IsTrue (allowed_call roster names (entry ∷ past) r call)
    keeps_call Begin may = may
    keeps_call (Preempt target) may =
        subst (λ (o : List Entry). IsTrue (unwrap_or (option_map (λ request. is_on_route request target) (numbered roster.requests r)) false && not (list_any (λ e. preempts e.call target) o))) same_own may
    keeps_call (Select s t) may =
        let fit = unwrap_or (option_map (is_site_of roster r) (space_named names s)) false && fits_space names s t in
        both fit (not (waits (entry ∷ past) r)) (and_left fit (not (waits past r)) may) (waits_less entry past r other (and_right fit (not (waits past r)) may))
    keeps_call (Reject space ordinal) may =
        subst (λ (o : List Entry). IsTrue (list_any (λ e. is_that_gift (gift_told e.reply) (record { space = space; ordinal = ordinal })) o || ordinal == 0 && list_any (λ e. is_default e.reply && selects e.call space) o)) same_own may
    keeps_call (Renew gift t) may =
        subst (λ (o : List Entry). IsTrue (list_any (λ e. is_that_gift (gift_told e.reply) gift) o && scheme_is names is_digest gift.space && has_terms names gift.space t)) same_own may
    keeps_call (Answer prompt text t) may =
        let led = and_left (is_led_by past r prompt) (not (settled past prompt)) (and_left (is_led_by past r prompt && not (settled past prompt)) _ (and_left (is_led_by past r prompt && not (settled past prompt) && nat_le text (length names.texts)) _ may)) in
        subst (λ (b : Bool). IsTrue (is_led_by (entry ∷ past) r prompt && not b && nat_le text (length names.texts) && unwrap_or (option_map (λ e. terms_selected e.call == t) (lead (entry ∷ past) prompt)) false)) (settled_stays prompt led)
        (subst (λ (o : Option Entry). IsTrue (unwrap_or (option_map (λ e. e.request == r) o) false && not (settled past prompt) && nat_le text (length names.texts) && unwrap_or (option_map (λ e. terms_selected e.call == t) o) false)) (led_stays prompt led) may)
    keeps_call (Lose prompt loss) may =
        let led = and_left (is_led_by past r prompt) (not (settled past prompt)) may in
        subst (λ (b : Bool). IsTrue (is_led_by (entry ∷ past) r prompt && not b)) (settled_stays prompt led)
        (subst (λ (o : Option Entry). IsTrue (unwrap_or (option_map (λ e. e.request == r) o) false && not (settled past prompt))) (led_stays prompt led) may)
    keeps_call (Take prompt) may =
        subst (λ (o : List Entry). IsTrue (not (prompt == 0) && list_any (λ e. prompt_followed e.reply == prompt) o && not (list_any (λ e. takes e.call prompt) o))) same_own may
    keeps_call (Note gift) may =
        subst (λ (o : List Entry). IsTrue (list_any (λ e. is_that_gift (gift_told e.reply) gift) o && (scheme_is names is_basic gift.space || scheme_is names is_digest gift.space))) same_own may
    keeps_call End may = waits_less entry past r other may
    keeps_call (Draw nonce) may = may

    keeps : (c : ℕ) (call : Call) → IsTrue (allowed roster names past c r call) → IsTrue (allowed roster names (entry ∷ past) c r call)
    keeps c call may =
        let first = cond (begins call) (no_entry past r) (is_open past c r) in
        let first' = cond (begins call) (no_entry (entry ∷ past) r) (is_open (entry ∷ past) c r) in
        both first' (allowed_call roster names (entry ∷ past) r call)
        (subst (λ (o : List Entry). IsTrue (cond (begins call) (length o == 0) (list_any (λ e. begins e.call && e.caller == c) o && not (list_any (λ e. ends e.call) o) && nat_lt (length o) 64))) same_own
        (and_left first (allowed_call roster names past r call) may))
        (keeps_call call (and_right first (allowed_call roster names past r call) may))

  -- ENTRIES OF OTHER REQUESTS

  pub keeps_all : (later past : List Entry) → IsLegalPast roster names (later ++ past) → (r : ℕ) → All (λ e. (e.request == r) ≡ false) later → (c : ℕ) (call : Call) → IsTrue (allowed roster names past c r call) → IsTrue (allowed roster names (later ++ past) c r call)
  keeps_all [] past legal r others c call may = may
  keeps_all (entry ∷ later) past legal r others c call may =
      keeps entry (later ++ past) legal r (All-head (λ e. (e.request == r) ≡ false) entry later others) c call
      (keeps_all later past legal.0 r (All-tail (λ e. (e.request == r) ≡ false) entry later others) c call may)

-- NAMES

extends_itself : (names : Tables) → Extends names names
extends_itself names = record { spaces = λ s named. refl; terms = λ t named. refl; text = λ x named. refl; texts = omega arith }

extends_twice : (a b c : Tables) → Extends a b → Extends b c → Extends a c
extends_twice a b c first then = record {
  spaces = λ s named. then.spaces s (ap is_some (first.spaces s named) ∙ named) ∙ first.spaces s named;
  terms = λ t named. then.terms t (ap is_some (first.terms t named) ∙ named) ∙ first.terms t named;
  text = λ x named. then.text x (ap is_some (first.text x named) ∙ named) ∙ first.text x named;
  texts = omega (arith, first.texts, then.texts);
}

extends_told : (names : Tables) (item : Told) → Extends names (with_told names item)
extends_told names (Made entry) = extends_itself names
extends_told names (SpaceNamed caller space) = extends_by_space names space
extends_told names (TermsNamed caller name) = extends_by_terms names name
extends_told names (TextNamed caller text) = extends_by_text names text

extends_fold : (names : Tables) (more : List Told) → Extends names (fold with_told names more)
extends_fold names [] = extends_itself names
extends_fold names (item ∷ more) = extends_twice names (with_told names item) (fold with_told (with_told names item) more) (extends_told names item) (extends_fold (with_told names item) more)

-- names that were told keep their meaning
pub extends_more : (seen more : List Told) → Extends (names_told seen) (names_told (seen ++ more))
extends_more seen more = subst (Extends (names_told seen)) (sym (fold-append with_told _ seen more)) (extends_fold (names_told seen) more)

-- TOLD LISTS

pub past-append : (seen more : List Told) → past (seen ++ more) ≡ past more ++ past seen
past-append seen more = ap reverse (filter_map-append entry_told seen more) ∙ reverse-append (journal seen) (journal more)

pub filter-append : (p : Told → Bool) (xs ys : List Told) → filter p (xs ++ ys) ≡ filter p xs ++ filter p ys
filter-append p [] ys = refl
filter-append p (x ∷ xs) ys = at (p x) (filter-append p xs ys)
  where
    at : (b : Bool) → filter p (xs ++ ys) ≡ filter p xs ++ filter p ys → cond b (x ∷ filter p (xs ++ ys)) (filter p (xs ++ ys)) ≡ cond b (x ∷ filter p xs) (filter p xs) ++ filter p ys
    at true rest = ap (λ (l : List Told). x ∷ l) rest
    at false rest = rest

pub nothing_added : (xs ys : List Told) → xs ++ ys ≡ xs → ys ≡ []
nothing_added xs ys same = none ys (omega (arith, ap length same, length-append xs ys))
  where
    none : (l : List Told) → length l ≡ 0 → l ≡ []
    none [] zero_long = refl
    none (x ∷ l) zero_long = absurd (omega arith)

-- none of the items is the caller's, so no entry is of the caller's request
others_of : (callers r : ℕ) (more : List Told) → IsOwned callers more → items_of (owner callers r) more ≡ [] → All (λ e. (e.request == r) ≡ false) (journal more)
others_of callers r [] owned none = All-nil (λ e. (e.request == r) ≡ false)
others_of callers r (Made entry ∷ more) owned none = at (entry.request == r) refl (entry.caller == owner callers r) refl none (others_of callers r more (All-tail (IsOwnedItem callers) (Made entry) more owned))
  where
    home : entry.caller ≡ owner callers entry.request
    home = number_same entry.caller (owner callers entry.request) (All-head (IsOwnedItem callers) (Made entry) more owned)

    at : (b : Bool) → (entry.request == r) ≡ b → (a : Bool) → (entry.caller == owner callers r) ≡ a → cond a (Made entry ∷ items_of (owner callers r) more) (items_of (owner callers r) more) ≡ [] → (items_of (owner callers r) more ≡ [] → All (λ e. (e.request == r) ≡ false) (journal more)) → All (λ e. (e.request == r) ≡ false) (entry ∷ journal more)
    at b same true is gone rest = absurd (omega (arith, ap length gone))
    at true same false is gone rest =
        absurd (not_other entry.caller (owner callers r) is (home ∙ ap (owner callers) (number_same entry.request r same)))
    at false same false is gone rest = All-cons (λ e. (e.request == r) ≡ false) entry (journal more) same (rest gone)
others_of callers r (SpaceNamed caller space ∷ more) owned none = at (caller == owner callers r) none (others_of callers r more (All-tail (IsOwnedItem callers) (SpaceNamed caller space) more owned))
  where
    at : (a : Bool) → cond a (SpaceNamed caller space ∷ items_of (owner callers r) more) (items_of (owner callers r) more) ≡ [] → (items_of (owner callers r) more ≡ [] → All (λ e. (e.request == r) ≡ false) (journal more)) → All (λ e. (e.request == r) ≡ false) (journal more)
    at true gone rest = absurd (omega (arith, ap length gone))
    at false gone rest = rest gone
others_of callers r (TermsNamed caller name ∷ more) owned none = at (caller == owner callers r) none (others_of callers r more (All-tail (IsOwnedItem callers) (TermsNamed caller name) more owned))
  where
    at : (a : Bool) → cond a (TermsNamed caller name ∷ items_of (owner callers r) more) (items_of (owner callers r) more) ≡ [] → (items_of (owner callers r) more ≡ [] → All (λ e. (e.request == r) ≡ false) (journal more)) → All (λ e. (e.request == r) ≡ false) (journal more)
    at true gone rest = absurd (omega (arith, ap length gone))
    at false gone rest = rest gone
others_of callers r (TextNamed caller text ∷ more) owned none = at (caller == owner callers r) none (others_of callers r more (All-tail (IsOwnedItem callers) (TextNamed caller text) more owned))
  where
    at : (a : Bool) → cond a (TextNamed caller text ∷ items_of (owner callers r) more) (items_of (owner callers r) more) ≡ [] → (items_of (owner callers r) more ≡ [] → All (λ e. (e.request == r) ≡ false) (journal more)) → All (λ e. (e.request == r) ≡ false) (journal more)
    at true gone rest = absurd (omega (arith, ap length gone))
    at false gone rest = rest gone

-- LEGAL TOLD LISTS

filter_all : (p : Entry → Bool) (xs : List Entry) → IsTrue (list_all p xs) → filter p xs ≡ xs
filter_all p [] all = refl
filter_all p (x ∷ xs) all =
    ap (λ b. cond b (x ∷ filter p xs) (filter p xs)) (and_left (p x) (list_all p xs) all) ∙ ap (λ (ys : List Entry). x ∷ ys) (filter_all p xs (and_right (p x) (list_all p xs) all))

-- a told list without draws has a legal past
pub past_legal : (roster : Roster) (names : Tables) (told : List Told) → IsTrue (has_no_draw told) → IsLegal roster names (journal told) → IsLegalPast roster names (past told)
past_legal roster names told none legal =
    subst (λ (entries : List Entry). IsLegalPast roster names (reverse entries)) (filter_all (λ e. not (draws e.call)) (journal told) none) legal

-- THE LAW

all_behind : (P : Told → Type 0) (xs ys : List Told) → All P (xs ++ ys) → All P ys
all_behind P [] ys all = all
all_behind P (x ∷ xs) ys all = all_behind P xs ys (All-tail P x (xs ++ ys) all)

pub lifted : (roster : Roster) (callers : ℕ) (seen more : List Told) (r : ℕ) (call : Call) → IsLegalPast roster (names_told (seen ++ more)) (past (seen ++ more)) → IsOwned callers (seen ++ more) → items_of (owner callers r) (seen ++ more) ≡ items_of (owner callers r) seen → IsTrue (allowed roster (names_told seen) (past seen) (owner callers r) r call) → IsTrue (allowed roster (names_told (seen ++ more)) (past (seen ++ more)) (owner callers r) r call)
lifted roster callers seen more r call legal owned mine may =
    let names = names_told seen in
    let names' = names_told (seen ++ more) in
    let c = owner callers r in
    let first = cond (begins call) (no_entry (past seen) r) (is_open (past seen) c r) in
    let may' = both first (allowed_call roster names' (past seen) r call) (and_left first (allowed_call roster names (past seen) r call) may) (allowed-more roster names names' (extends_more seen more) (length roster.requests) (past seen) r call (and_right first (allowed_call roster names (past seen) r call) may)) in
    let none = nothing_added (items_of c seen) (items_of c more) (sym (filter-append (λ item. maker item == c) seen more) ∙ mine) in
    let others = others_of callers r more (all_behind (IsOwnedItem callers) seen more owned) none in
    subst (λ (p : List Entry). IsTrue (allowed roster names' p c r call)) (sym (past-append seen more))
    (keeps_all roster names' (past more) (past seen) (subst (IsLegalPast roster names') (past-append seen more) legal) r (All-reverse (λ e. (e.request == r) ≡ false) (journal more) others) c call may')
