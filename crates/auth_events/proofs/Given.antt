-- A gift that was given has an identity.
use Rattle.std.proofs.Common.{◌≡◌, ℕ, zero, suc, ◌<◌, ◌≤◌, Bool, true, false, not, ◌&&◌, cond, List, [], ◌∷◌, length, refl, ap, sym, subst, ◌∙◌, arith, inl, inr, Option, Some, None}
use Rattle.std.specs.Prelude.{IsTrue, is_some, option_map, option_and_then, unwrap_or, nat_le, ◌==◌, slice_get}
use Rattle.std.proofs.lemmas.Bool.Decides.{nat_tests}
use Rattle.std.proofs.lemmas.Bool.{false≢true}
use Rattle.spaces.specs.declared.roster.Roster.{Roster}
use Rattle.spaces.specs.declared.roster.Request.{Request}
use Rattle.spaces.specs.Sites.{numbered}
use Rattle.auth_events.specs.declared.journal.Gift.{Gift}
use Rattle.auth_events.specs.declared.journal.Entry.{Entry}
use Rattle.auth_events.specs.declared.journal.Call.TheVariants.{Select, Answer}
use Rattle.auth_events.specs.declared.journal.BookReply.{BookReply}
use Rattle.auth_events.specs.declared.journal.BookReply.TheVariants.{Url, Given, Cancelled}
use Rattle.auth_events.specs.Tables.{Tables}
use Rattle.auth_events.specs.Pages.{fits}
use Rattle.auth_events.specs.Past.{gift_given, current, open_lead, evicted, lead, settled}
use Rattle.auth_events.specs.Book.{IsLegalPast, IsStep, allowed_call, answer, first_choice, has_url_identity, is_server, target_of, was_url_told, was_default_told, scheme_is, is_negotiate, is_allowed_origin, is_rival, select_answer, given_answer, next_gift, space_of_prompt, is_url, is_that_gift, is_led_by, terms_selected}
use Rattle.auth_events.specs.Identities.{giving, identity_given, identity, text_in}
use Rattle.auth_events.proofs.Numbers.{and_left, and_right, numbered_suc}
use Rattle.auth_events.proofs.NamedThings.{given_call}

chosen_url : (url : Bool) (held : Option Gift) (ambient : Bool) (led : Option Entry) (rival : ℕ → Bool) (past : List Entry) (s : ℕ) → IsTrue (is_url (select_answer rival past s (first_choice url held ambient led))) → IsTrue url
chosen_url true held ambient led rival past s told = refl
chosen_url false (Some gift) ambient led rival past s told = absurd (false≢true told)
chosen_url false None true led rival past s told = absurd (false≢true told)
chosen_url false None false (Some entry) rival past s told = absurd (false≢true told)
chosen_url false None false None rival past s told = absurd (false≢true told)

some_identity : (o : Option Request) → IsTrue (unwrap_or (option_map (λ request. is_some request.place.identity) o) false) → IsTrue (is_some (option_and_then (λ (request : Request). request.place.identity) o))
some_identity None some = absurd (false≢true some)
some_identity (Some request) some = some

some_within : {A : Type 0} (xs : List A) (j : ℕ) → j < length xs → IsTrue (is_some (slice_get xs j))
some_within [] j lt = absurd (omega arith)
some_within (x ∷ xs) zero lt = refl
some_within (x ∷ xs) (suc j) lt = some_within xs j (omega arith)

some_numbered : {A : Type 0} (xs : List A) (n : ℕ) → 1 ≤ n → n ≤ length xs → IsTrue (is_some (numbered xs n))
some_numbered xs zero low high = absurd (omega arith)
some_numbered {A} xs (suc k) low high = subst (λ (o : Option A). IsTrue (is_some o)) (sym (numbered_suc xs k)) (some_within xs k (omega arith))

le_of : (a b : ℕ) → IsTrue (nat_le a b) → a ≤ b
le_of a b test = grind (arith, nat_tests)

positive : (a : ℕ) → (a == 0) ≡ false → 1 ≤ a
positive a test = grind (arith, nat_tests)

answer_no_url : (p x t : ℕ) (reply : BookReply) → IsTrue (fits (Answer p x t) reply) → is_url reply ≡ true → ⊥
answer_no_url p x t (Url gift evicted) fit url = false≢true fit
answer_no_url p x t (Given gift evicted) fit url = false≢true url
answer_no_url p x t Cancelled fit url = false≢true url
answer_no_url p x t reply fit url = false≢true fit

select_url : (s t : ℕ) (reply : BookReply) (g : Gift) → IsTrue (fits (Select s t) reply) → gift_given reply ≡ Some g → is_url reply ≡ false → ⊥
select_url s t (Url gift evicted) g fit given url = false≢true (sym url)
select_url s t (Given gift evicted) g fit given url = false≢true fit
select_url s t reply g fit given url = false≢true (ap is_some given)

text_given : (rival : ℕ → Bool) (past : List Entry) (s x : ℕ) (g : Gift) → gift_given (given_answer rival past s x) ≡ Some g → 1 ≤ x
text_given rival past s x g given = at (x == 0) refl given
  where
    at : (b : Bool) → (x == 0) ≡ b → gift_given (cond b Cancelled (Given (next_gift past s) (evicted rival past s))) ≡ Some g → 1 ≤ x
    at true is given' = absurd (false≢true (ap is_some given'))
    at false is given' = positive x is

-- an entry that gives has an identity to give
identity_of_step : (roster : Roster) (names : Tables) (past : List Entry) (entry : Entry) (g : Gift) → IsStep roster names past entry → gift_given entry.reply ≡ Some g → IsTrue (is_some (identity_given roster names entry))
identity_of_step roster names past entry g step given = at (is_url entry.reply) refl
  where
    may : IsTrue (allowed_call roster names past entry.request entry.call)
    may = and_right _ (allowed_call roster names past entry.request entry.call) step.0

    of_url : (s t : ℕ) → entry.call ≡ Select s t → IsTrue (is_url entry.reply) → IsTrue (is_some (option_and_then (λ (request : Request). request.place.identity) (numbered roster.requests entry.request)))
    of_url s t call url =
        let reply : entry.reply ≡ answer roster names past entry.request (Select s t) = step.1 ∙ ap (answer roster names past entry.request) call in
        let asked = is_server (target_of names s) && has_url_identity roster entry.request && not (was_url_told past entry.request) in
        let chosen : IsTrue asked = chosen_url asked (current past s) (scheme_is names is_negotiate s && is_allowed_origin roster names s && not (was_default_told past entry.request s)) (open_lead past s) (is_rival names s) past s (subst (λ r. IsTrue (is_url r)) reply url) in
        some_identity (numbered roster.requests entry.request) (and_right (is_server (target_of names s)) (has_url_identity roster entry.request) (and_left (is_server (target_of names s) && has_url_identity roster entry.request) (not (was_url_told past entry.request)) chosen))

    of_text : (p x t : ℕ) → entry.call ≡ Answer p x t → IsTrue (is_some (numbered names.texts (text_in entry.call)))
    of_text p x t call =
        let reply : entry.reply ≡ given_answer (is_rival names (space_of_prompt past p)) past (space_of_prompt past p) x = step.1 ∙ ap (answer roster names past entry.request) call in
        let low = text_given (is_rival names (space_of_prompt past p)) past (space_of_prompt past p) x g (sym (ap gift_given reply) ∙ given) in
        let allowed : IsTrue (allowed_call roster names past entry.request (Answer p x t)) = subst (λ c. IsTrue (allowed_call roster names past entry.request c)) call may in
        let first = and_left (is_led_by past entry.request p && not (settled past p) && nat_le x (length names.texts)) (unwrap_or (option_map (λ (e : Entry). terms_selected e.call == t) (lead past p)) false) allowed in
        let high = le_of x (length names.texts) (and_right (is_led_by past entry.request p && not (settled past p)) (nat_le x (length names.texts)) first) in
        subst (λ c. IsTrue (is_some (numbered names.texts (text_in c)))) (sym call) (some_numbered names.texts x low high)

    at : (b : Bool) → is_url entry.reply ≡ b → IsTrue (is_some (cond b (option_and_then (λ (request : Request). request.place.identity) (numbered roster.requests entry.request)) (numbered names.texts (text_in entry.call))))
    at true url =
        elim (given_call entry.call entry.reply g step.2 given) [
          | inl sel ↦ of_url sel.0 sel.1 sel.2 url
          | inr ans ↦ absurd (answer_no_url ans.0 ans.1 ans.2 entry.reply (subst (λ c. IsTrue (fits c entry.reply)) ans.3 step.2) url)
        ]
    at false url =
        elim (given_call entry.call entry.reply g step.2 given) [
          | inl sel ↦ absurd (select_url sel.0 sel.1 entry.reply g (subst (λ c. IsTrue (fits c entry.reply)) sel.2 step.2) given url)
          | inr ans ↦ of_text ans.0 ans.1 ans.2 ans.3
        ]

-- a gift that was given has an identity
pub given_identity : (roster : Roster) (names : Tables) (past : List Entry) (gift : Gift) → IsLegalPast roster names past → IsTrue (is_some (giving past gift)) → IsTrue (is_some (identity roster names past gift))
given_identity roster names [] gift legal given = absurd (false≢true given)
given_identity roster names (entry ∷ past) gift legal given =
    at (is_that_gift (gift_given entry.reply) gift) refl given (given_identity roster names past gift legal.0)
  where
    giving_it : (o : Option Gift) → gift_given entry.reply ≡ o → IsTrue (is_that_gift o gift) → IsTrue (is_some (identity_given roster names entry))
    giving_it None is same = absurd (false≢true same)
    giving_it (Some g) is same = identity_of_step roster names past entry g legal.1 is

    at : (b : Bool) → is_that_gift (gift_given entry.reply) gift ≡ b → IsTrue (is_some (cond b (Some entry) (giving past gift))) → (IsTrue (is_some (giving past gift)) → IsTrue (is_some (identity roster names past gift))) → IsTrue (is_some (option_and_then (identity_given roster names) (cond b (Some entry) (giving past gift))))
    at true is given' later = giving_it (gift_given entry.reply) refl is
    at false is given' later = later given'
