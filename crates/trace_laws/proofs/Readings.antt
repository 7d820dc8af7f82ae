-- What a request holds may be read, and the nonce that it draws of is known to it.
use Rattle.std.proofs.Common.{◌≡◌, ◌⊎◌, inl, inr, ℕ, Bool, true, false, not, ◌&&◌, ◌||◌, ◌==◌, IsTrue, List, [], ◌∷◌, drop, Option, Some, None, is_some, is_none, option_and_then, option_map, unwrap_or, refl, sym, ap, ◌∙◌, subst, if◌then◌else◌}
use Rattle.std.specs.List.{list_any}
use Rattle.std.proofs.lemmas.Bool.{false≢true, eq-eqb}
use Rattle.spaces.specs.declared.roster.Request.{Request}
use Rattle.spaces.specs.declared.roster.Roster.{Roster}
use Rattle.spaces.specs.declared.site.Target.{Target}
use Rattle.spaces.specs.declared.space.Scheme.TheVariants.{Digest, Negotiate}
use Rattle.spaces.specs.Sites.{numbered, same_target}
use Rattle.auth_events.specs.declared.journal.Call.{Call}
use Rattle.auth_events.specs.declared.journal.Call.TheVariants.{Preempt, Select, Reject, Renew, Answer, Take}
use Rattle.auth_events.specs.declared.journal.BookReply.{BookReply}
use Rattle.auth_events.specs.declared.journal.BookReply.TheVariants.{Ready, Url, Cached, Default, Follow, Given, Gave}
use Rattle.auth_events.specs.declared.journal.Entry.{Entry}
use Rattle.auth_events.specs.declared.names.TermsName.{TermsName}
use Rattle.auth_events.specs.Book.{nonce_of, own}
use Rattle.auth_events.specs.Fresh.{has_nonce, knows, terms_ready}
use Rattle.auth_events.specs.Identities.{giving, identity_given}
use Rattle.auth_events.specs.Past.{terms_in}
use Rattle.auth_events.specs.Tables.{Tables}
use Rattle.auth_events.proofs.Numbers.{both, or_left, or_right}
use Rattle.auth_events.proofs.Same.{number_refl, number_same}
use Rattle.link_trait.specs.declared.steps.StepSeen.{StepSeen}
use Rattle.link_trait.specs.declared.steps.StepSeen.TheVariants.{NoMechanism, Token}
use Rattle.auth_runs.specs.declared.event.Outcome.{Outcome}
use Rattle.auth_runs.specs.declared.event.Event.{Event}
use Rattle.auth_runs.specs.declared.event.Event.TheVariants.{Called, Drew, Headed, LinkLost, Replied, Stepped}
use Rattle.trace_rule.specs.Settings.{Setting, scheme_is, target_is}
use Rattle.trace_rule.specs.Challenges.{challenges_target}
use Rattle.trace_rule.specs.Holding.{Held, deciding, gift_held, held, held_called, held_drew, held_headed, held_lost, held_prompted, held_ready, held_replied, held_selected, held_stepped, terms_followed}
use Rattle.trace_rule.specs.Moves.{Move, Want, move}
use Rattle.trace_rule.specs.Moves.Move.{Closes, Goes}
use Rattle.trace_rule.specs.Moves.Want.{Calls, Draws, Ends, Reads, Rests}
use Rattle.trace_rule.specs.Closings.{carried_out, closings, closings_made, next_closing, want}
use Rattle.trace_rule.specs.Entries.{Made, calls, made_in}
use Rattle.trace_rule.specs.Serving.{IsServing, setting_in}
use Rattle.trace_rule.specs.Traces.{IsPast}
use Rattle.trace_rule.proofs.Allowed.{any_map}
use Rattle.trace_rule.proofs.Knowing.{IsKnown, Knows, known_held, one_of}
use Rattle.trace_laws.specs.Naming.{IsReadable}
use Rattle.trace_laws.proofs.Rows.{IsAside, Row, row}
use Rattle.trace_laws.proofs.Rows.Row.{aside, goes_on, reads}
use Rattle.trace_laws.proofs.Ways.{Way, way}
use Rattle.trace_laws.proofs.Ways.Way.{dials, draws, loses, starts, writes}

-- READING

given_of : (roster : Roster) (names : Tables) (o : Option Entry) → IsTrue (is_some (option_and_then (identity_given roster names) o)) → IsTrue (is_some o)
given_of roster names None h = absurd (false≢true h)
given_of roster names (Some entry) h = refl

pub readable : (n : Bool) (roster : Roster) (seed : List ℕ) (names : Tables) (entries : List Entry) (caller r : ℕ) (request : Request) (past : List Event)
    → IsServing roster names entries caller r request (setting_in n roster seed names entries r request) past
    → (t : Target) (h : Held) → held (setting_in n roster seed names entries r request) past t ≡ Some h → IsReadable names entries (setting_in n roster seed names entries r request) h
readable n roster seed names entries caller r request past v t h e =
    record { space = known.space; identity = by known.identity; terms = λ digest. terms_of (one_of (scheme_is here h.gift.space Digest) (is_some (numbered names.terms h.terms)) known.terms_known) digest }
  where
    here : Setting
    here = setting_in n roster seed names entries r request

    known : IsKnown here h.gift h.terms
    known = subst (Knows here) e (known_held here past v.is_past t)

    by : (h.gift.ordinal ≡ 0) × IsTrue (scheme_is here h.gift.space Negotiate) ⊎ IsTrue (is_some (here.identity_of h.gift)) → (h.gift.ordinal ≡ 0) ⊎ IsTrue (is_some (giving entries h.gift))
    by (inl d) = inl d.0
    by (inr some) = inr (given_of roster names (giving entries h.gift) some)

    terms_of : (scheme_is here h.gift.space Digest ≡ false) ⊎ IsTrue (is_some (numbered names.terms h.terms)) → IsTrue (scheme_is here h.gift.space Digest) → IsTrue (is_some (numbered names.terms h.terms))
    terms_of (inl other) digest = absurd (false≢true (sym other ∙ digest))
    terms_of (inr some) digest = some

-- TERMS

-- the call or its reply brings the terms
abbrev brings : ℕ → Made → Bool
brings t made = (terms_in made.call == t) || (terms_ready made.reply == t)

abbrev AreBrought : ℕ → List Event → Type 0
AreBrought t past = (t ≡ 0) ⊎ IsTrue (list_any (brings t) (calls past))

abbrev IsBrought : List Event → Option Held → Type 0
IsBrought past None = Unit {0}
IsBrought past (Some h) = AreBrought h.terms past

called_brings : (t : ℕ) (call : Call) (reply : BookReply) (past : List Event) → IsTrue (brings t (record { call = call; reply = reply })) → AreBrought t (Called call reply ∷ past)
called_brings t call reply past now = inr (or_left (brings t (record { call = call; reply = reply })) (list_any (brings t) (calls past)) now)

brought_later : (t : ℕ) (event : Event) (past : List Event) → AreBrought t past → AreBrought t (event ∷ past)
brought_later t event past (inl zero_terms) = inl zero_terms
brought_later t (Called call reply) past (inr told) = inr (or_right (brings t (record { call = call; reply = reply })) (list_any (brings t) (calls past)) told)
brought_later t _ past (inr told) = inr told

is_brought_later : (event : Event) (past : List Event) (o : Option Held) → IsBrought past o → IsBrought (event ∷ past) o
is_brought_later event past None p = tt
is_brought_later event past (Some h) p = brought_later h.terms event past p

brought_if : (past : List Event) (b : Bool) (x y : Option Held) → IsBrought past x → IsBrought past y → IsBrought past (if b then x else y)
brought_if past true x y p q = p
brought_if past false x y p q = q

followed_brought : (past : List Event) (p : ℕ) → AreBrought (terms_followed past p) past
followed_brought [] p = inl refl
followed_brought (Called (Select space terms) (Follow prompt) ∷ past) p = at (prompt == p) (brought_later (terms_followed past p) (Called (Select space terms) (Follow prompt)) past (followed_brought past p))
  where
    at : (b : Bool) → AreBrought (terms_followed past p) (Called (Select space terms) (Follow prompt) ∷ past) → AreBrought (unwrap_or (if b then Some terms else None) (terms_followed past p)) (Called (Select space terms) (Follow prompt) ∷ past)
    at true later = called_brings terms (Select space terms) (Follow prompt) past (or_left (terms == terms) (0 == terms) (number_refl terms))
    at false later = later
followed_brought (event ∷ past) p = brought_later (terms_followed past p) event past (followed_brought past p)

here_in : (t : ℕ) (reply : BookReply) → IsTrue ((t == t) || (terms_ready reply == t))
here_in t reply = or_left (t == t) (terms_ready reply == t) (number_refl t)

called_brought : (s : Setting) (t : Target) (past : List Event) (call : Call) (reply : BookReply) (before : Option Held) → IsBrought (Called call reply ∷ past) before → IsBrought (Called call reply ∷ past) (held_called s t past call reply before)
called_brought s t past (Preempt target) reply before p = brought_if (Called (Preempt target) reply ∷ past) (same_target target t) (held_ready reply before) before (ready reply p) p
  where
    ready : (b : BookReply) → IsBrought (Called (Preempt target) b ∷ past) before → IsBrought (Called (Preempt target) b ∷ past) (held_ready b before)
    ready (Ready gift terms epoch) q = called_brings terms (Preempt target) (Ready gift terms epoch) past (or_right (0 == terms) (terms == terms) (number_refl terms))
    ready _ q = q
called_brought s t past (Select space terms) reply before p = brought_if (Called (Select space terms) reply ∷ past) (target_is s space t) (held_selected space terms reply before) before (chosen reply p) p
  where
    chosen : (b : BookReply) → IsBrought (Called (Select space terms) b ∷ past) before → IsBrought (Called (Select space terms) b ∷ past) (held_selected space terms b before)
    chosen (Url gift evicted) q = called_brings terms (Select space terms) (Url gift evicted) past (here_in terms (Url gift evicted))
    chosen (Cached gift) q = called_brings terms (Select space terms) (Cached gift) past (here_in terms (Cached gift))
    chosen Default q = inl refl
    chosen _ q = q
called_brought s t past (Reject space ordinal) reply before p = brought_if (Called (Reject space ordinal) reply ∷ past) (target_is s space t) None before tt p
called_brought s t past (Renew gift terms) reply before p =
    brought_if (Called (Renew gift terms) reply ∷ past) (target_is s gift.space t) (gift_held gift terms None) before (called_brings terms (Renew gift terms) reply past (here_in terms reply)) p
called_brought s t past (Answer prompt text terms) reply before p = answered reply p
  where
    answered : (b : BookReply) → IsBrought (Called (Answer prompt text terms) b ∷ past) before → IsBrought (Called (Answer prompt text terms) b ∷ past) (held_prompted s t terms b before)
    answered (Given gift evicted) q =
        brought_if (Called (Answer prompt text terms) (Given gift evicted) ∷ past) (target_is s gift.space t) (gift_held gift terms None) before
        (called_brings terms (Answer prompt text terms) (Given gift evicted) past (here_in terms (Given gift evicted))) q
    answered (Gave gift) q =
        brought_if (Called (Answer prompt text terms) (Gave gift) ∷ past) (target_is s gift.space t) (gift_held gift terms None) before
        (called_brings terms (Answer prompt text terms) (Gave gift) past (here_in terms (Gave gift))) q
    answered _ q = q
called_brought s t past (Take prompt) reply before p = taken reply p
  where
    taken : (b : BookReply) → IsBrought (Called (Take prompt) b ∷ past) before → IsBrought (Called (Take prompt) b ∷ past) (held_prompted s t (terms_followed past prompt) b before)
    taken (Given gift evicted) q =
        brought_if (Called (Take prompt) (Given gift evicted) ∷ past) (target_is s gift.space t) (gift_held gift (terms_followed past prompt) None) before
        (brought_later (terms_followed past prompt) (Called (Take prompt) (Given gift evicted)) past (followed_brought past prompt)) q
    taken (Gave gift) q =
        brought_if (Called (Take prompt) (Gave gift) ∷ past) (target_is s gift.space t) (gift_held gift (terms_followed past prompt) None) before
        (brought_later (terms_followed past prompt) (Called (Take prompt) (Gave gift)) past (followed_brought past prompt)) q
    taken _ q = q
called_brought s t past _ reply before p = p

kept_brought : (past : List Event) (f : Held → Option Held) → ((h : Held) → IsBrought past (Some h) → IsBrought past (f h)) → (o : Option Held) → IsBrought past o → IsBrought past (option_and_then f o)
kept_brought past f keeps None p = tt
kept_brought past f keeps (Some h) p = keeps h p

changed_brought : (past : List Event) (f : Held → Held) → ((h : Held) → (f h).terms ≡ h.terms) → (o : Option Held) → IsBrought past o → IsBrought past (option_map f o)
changed_brought past f same None p = tt
changed_brought past f same (Some h) p = subst (λ t. AreBrought t past) (sym (same h)) p

stepped_brought : (past : List Event) (step : StepSeen) (h : Held) → IsBrought past (Some h) → IsBrought past (held_stepped step h)
stepped_brought past (Token token) h p = p
stepped_brought past NoMechanism h p = brought_if past (is_some h.context) (Some h) None p tt
stepped_brought past _ h p = p

-- the terms of what is held were brought by a call of the request
brought : (s : Setting) (past : List Event) (t : Target) → IsBrought past (held s past t)
brought s [] t = tt
brought s (Called call reply ∷ past) t = called_brought s t past call reply (held s past t) (is_brought_later (Called call reply) past (held s past t) (brought s past t))
brought s (Drew target nonce count epoch ∷ past) t =
    brought_if past (same_target target t) (option_and_then (held_drew epoch) (held s past t)) (held s past t)
    (kept_brought past (held_drew epoch) (λ h p. brought_if past (unwrap_or h.preemptive epoch == epoch) (Some h) None p tt) (held s past t) (brought s past t)) (brought s past t)
brought s (Stepped target step ∷ past) t =
    brought_if past (same_target target t) (option_and_then (held_stepped step) (held s past t)) (held s past t)
    (kept_brought past (held_stepped step) (stepped_brought past step) (held s past t) (brought s past t)) (brought s past t)
brought s (Headed link bytes ∷ past) t = changed_brought past (held_headed link) (λ h. refl) (held s past t) (brought s past t)
brought s (Replied link reply ∷ past) t =
    kept_brought past (held_replied s t reply) (λ h p. brought_if past (challenges_target s reply t && is_none (deciding s reply t h)) None (Some h) tt p) (held s past t) (brought s past t)
brought s (LinkLost link ∷ past) t = changed_brought past held_lost (λ h. refl) (held s past t) (brought s past t)
brought s (_ ∷ past) t = brought s past t

-- DRAWS

abbrev IsDrawOf : Setting → List Event → ℕ → Type 0
IsDrawOf s past nonce = (t : Target) × (h : Held) × (name : TermsName) × (held s past t ≡ Some h) × (s.terms_of h.terms ≡ Some name) × (name.nonce ≡ nonce)

abbrev is_draw : Want → Bool
is_draw (Draws t nonce) = true
is_draw _ = false

abbrev nonce_in : Want → ℕ
nonce_in (Draws t nonce) = nonce
nonce_in _ = 0

-- a count is drawn for terms of what is held
draw_of : (s : Setting) (past : List Event) (target : Target) (nonce : ℕ) → IsPast s past → want s past ≡ Draws target nonce → IsDrawOf s past nonce
draw_of s past target nonce run wanted = at (row s past run)
  where
    no : {P : Type 0} (w : Want) → is_draw w ≡ false → w ≡ Draws target nonce → P
    no w other e = absurd (false≢true (sym other ∙ ap is_draw e))

    by_way : (w : Want) → Way s past w → w ≡ Draws target nonce → IsDrawOf s past nonce
    by_way w (draws t h name held_now found same) e = (t, h, name, held_now, found, ap nonce_in (sym same ∙ e))
    by_way w (starts t h held_now same) e = no w (ap is_draw same) e
    by_way w (loses link b k same) e = no w (ap is_draw same) e
    by_way w (dials free none same) e = no w (ap is_draw same) e
    by_way w (writes p q same) e = no w (ap is_draw same) e

    at_list : (o : Outcome) (cs : List (Option Call)) → next_closing o cs ≡ Draws target nonce → IsDrawOf s past nonce
    at_list o [] e = no (Ends o) refl e
    at_list o (None ∷ cs) e = no Rests refl e
    at_list o (Some c ∷ cs) e = no (Calls c) refl e

    beside : (m : Move) → IsAside m → carried_out s past m ≡ Draws target nonce → IsDrawOf s past nonce
    beside (Goes w) a e = absurd (subst (λ x. IsAside (Goes x)) e a)
    beside (Closes o) a e = at_list o (drop (closings_made s past) (closings s past o)) e

    at : Row s past → IsDrawOf s past nonce
    at (goes_on m) = by_way _ (way s past) (sym (ap (carried_out s past) m) ∙ wanted)
    at (reads link bytes before p m) = no (Reads link) refl (sym (ap (carried_out s past) m) ∙ wanted)
    at (aside a) = beside (move s past) a wanted

any_so : (f g : Made → Bool) → ((m : Made) → IsTrue (f m) → IsTrue (g m)) → (ms : List Made) → IsTrue (list_any f ms) → IsTrue (list_any g ms)
any_so f g so [] h = absurd (false≢true h)
any_so f g so (m ∷ ms) h = at (f m) refl h (any_so f g so ms)
  where
    at : (b : Bool) → f m ≡ b → IsTrue (b || list_any f ms) → (IsTrue (list_any f ms) → IsTrue (list_any g ms)) → IsTrue (g m || list_any g ms)
    at true now h' later = or_left (g m) (list_any g ms) (so m now)
    at false now h' later = or_right (g m) (list_any g ms) (later h')

pub drawn_known : (n : Bool) (roster : Roster) (seed : List ℕ) (names : Tables) (entries : List Entry) (caller r : ℕ) (request : Request) (past : List Event)
    → IsServing roster names entries caller r request (setting_in n roster seed names entries r request) past
    → (t : Target) (nonce : ℕ) → want (setting_in n roster seed names entries r request) past ≡ Draws t nonce → IsTrue (knows names entries r nonce)
drawn_known n roster seed names entries caller r request past v target nonce wanted = at (draw_of here past target nonce v.is_past wanted)
  where
    here : Setting
    here = setting_in n roster seed names entries r request

    knowing : Made → Bool
    knowing m = has_nonce names (terms_in m.call) nonce || has_nonce names (terms_ready m.reply) nonce

    has : (k : ℕ) (name : TermsName) → numbered names.terms k ≡ Some name → name.nonce ≡ nonce → IsTrue (has_nonce names k nonce)
    has k name found same = both (not (k == 0)) (nonce_of names k == nonce) (some (k == 0) refl) (eq-eqb (nonce_of names k) nonce (ap (λ o. unwrap_or (option_map (λ (x : TermsName). x.nonce) o) 0) found ∙ same))
      where
        some : (b : Bool) → (k == 0) ≡ b → IsTrue (not b)
        some true z = let clash : None ≡ Some name = sym (ap (numbered names.terms) (number_same k 0 z)) ∙ found in cc
        some false z = refl

    so : (k : ℕ) (name : TermsName) → numbered names.terms k ≡ Some name → name.nonce ≡ nonce → (m : Made) → IsTrue (brings k m) → IsTrue (knowing m)
    so k name found same m h = by (terms_in m.call == k) refl h
      where
        by : (b : Bool) → (terms_in m.call == k) ≡ b → IsTrue (b || (terms_ready m.reply == k)) → IsTrue (knowing m)
        by true e g = or_left (has_nonce names (terms_in m.call) nonce) (has_nonce names (terms_ready m.reply) nonce) (subst (λ x. IsTrue (has_nonce names x nonce)) (sym (number_same (terms_in m.call) k e)) (has k name found same))
        by false e g = or_right (has_nonce names (terms_in m.call) nonce) (has_nonce names (terms_ready m.reply) nonce) (subst (λ x. IsTrue (has_nonce names x nonce)) (sym (number_same (terms_ready m.reply) k g)) (has k name found same))

    told : (k : ℕ) (name : TermsName) → numbered names.terms k ≡ Some name → name.nonce ≡ nonce → AreBrought k past → IsTrue (knows names entries r nonce)
    told k name found same (inl z) = let clash : None ≡ Some name = sym (ap (numbered names.terms) z) ∙ found in cc
    told k name found same (inr some) =
        any_map made_in knowing (own entries r) ∙ (ap (list_any knowing) v.same_calls ∙ any_so (brings k) knowing (so k name found same) (calls past) some)

    at : IsDrawOf here past nonce → IsTrue (knows names entries r nonce)
    at (t, h, name, held_now, found, same) = told h.terms name found same (subst (IsBrought past) held_now (brought here past t))
