-- One step of a partition is the same step in its own part of the past.
use Rattle.std.proofs.Common.{◌≡◌, ℕ, ◌+◌, Bool, true, false, not, ◌&&◌, ◌||◌, cond, List, [], ◌∷◌, refl, ap, sym, subst, ◌∙◌, Option, Some, None, arith}
use Rattle.std.specs.Prelude.{All, IsTrue, find, option_map, option_and_then, unwrap_or, bytes_eq, ◌==◌}
use Rattle.std.specs.List.{list_any}
use Rattle.std.proofs.lemmas.Bool.Decides.{nat_tests}
use Rattle.std.proofs.lemmas.Bool.{false≢true}
use Rattle.std.proofs.lemmas.Option.{none-some}
use Rattle.std.proofs.lemmas.Slice.Eq.{bytes_eq-Decides}
use Rattle.spaces.specs.declared.roster.Roster.{Roster}
use Rattle.spaces.specs.declared.site.Site.{Site}
use Rattle.spaces.specs.declared.site.Target.{Target}
use Rattle.spaces.specs.ProtectionSpaces.{ProtectionSpace}
use Rattle.spaces.specs.Sites.{numbered, site, is_on_route}
use Rattle.auth_events.specs.declared.journal.Gift.{Gift}
use Rattle.auth_events.specs.declared.journal.Call.{Call}
use Rattle.auth_events.specs.declared.journal.Call.TheVariants.{Begin, Preempt, Select, Reject, Renew, Answer, Lose, Take, Note, End, Draw}
use Rattle.auth_events.specs.declared.journal.BookReply.{BookReply}
use Rattle.auth_events.specs.declared.journal.BookReply.TheVariants.{Ready, Given, Lead, Follow, Removed, Renewed, Noted, Kept, Cancelled}
use Rattle.auth_events.specs.declared.journal.Entry.{Entry}
use Rattle.auth_events.specs.Tables.{Tables}
use Rattle.auth_events.specs.Pages.{fits}
use Rattle.auth_events.specs.Past.{selects, current, current_ordinal, terms, leads, leads_of, open_lead, evicted, prompt_led, prompt_followed, is_lead, lead, settled}
use Rattle.auth_events.specs.Book.{Choice, IsStep, allowed, allowed_call, answer, first_choice, select_answer, given_answer, choice, is_rival, is_of_partition, is_of_site, kept_or, is_that_gift, next_gift, preempt_answer, ready, space_by_path, path_of, by_path, epoch_of_terms, nonce_of, epoch, own, was_url_told, was_default_told, was_told, is_url, is_default, gift_told, preempts, begins, ends, is_open, no_entry, is_server, target_of, has_url_identity, scheme_is, is_negotiate, is_basic, is_digest, is_allowed_origin, space_of_prompt, space_named, is_site_of, fits_space, has_terms, waits, is_led_by, terms_selected, takes}
use Rattle.auth_events.specs.Book.Choice.{ByUrl, ByCache, ByDefault, ByFollowing, ByLeading}
use Rattle.auth_events.proofs.Numbers.{and_left}
use Rattle.isolation.specs.Partitions.{renumbered, call_renumbered, reply_renumbered}
use Rattle.isolation.proofs.Parts.{shrink, url_moved, default_moved, told_moved, selects_moved, begins_moved, ends_moved, terms_selected_moved}
use Rattle.isolation.proofs.Rivals.{IsApart, current_shrunk, terms_shrunk, givings_shrunk, evicted_shrunk}
use Rattle.isolation.proofs.Epochs.{NoOtherHas, epoch_shrunk}
use Rattle.isolation.proofs.Prompts.{is_follow, IsPromptApart, IsNumbering, own_some, led_moved, own_shrunk, own_count, any_entry, settled_shrunk, end_shrunk, lead_shrunk, space_shrunk, led_by_shrunk, waits_shrunk, leads_of_shrunk, open_lead_shrunk, takes_moved}
use Rattle.isolation.proofs.Places.{IsPlacing, ArePlaced, by_path_shrunk, by_path_own}

-- what is found passes
found_passes : (q : Entry → Bool) (past : List Entry) (entry : Entry) → find q past ≡ Some entry → IsTrue (q entry)
found_passes q [] entry found = absurd (none-some entry found)
found_passes q (e ∷ past) entry found = at (q e) refl found (found_passes q past entry)
  where
    at : (b : Bool) → q e ≡ b → cond b (Some e) (find q past) ≡ Some entry → (find q past ≡ Some entry → IsTrue (q entry)) → IsTrue (q entry)
    at true is this later = subst (λ x. IsTrue (q x)) (ap (λ o. unwrap_or o e) this) is
    at false is there later = later there

-- the rivals of a space of the partition are the partition's
pub rivals_own : (names : Tables) (partition : List ℕ) (s : ℕ) → IsTrue (is_of_partition names partition s) → is_rival names s ≡ is_of_partition names partition
rivals_own names partition s own = at (space_named names s) refl own
  where
    at : (o : Option ProtectionSpace) → space_named names s ≡ o → IsTrue (unwrap_or (option_map (λ (space : ProtectionSpace). bytes_eq space.site.partition partition) o) false) → is_rival names s ≡ is_of_partition names partition
    at None is own' = absurd (false≢true own')
    at (Some space) is own' =
        ap (λ o. (λ other. unwrap_or (option_map (λ (space' : ProtectionSpace). is_of_partition names space'.site.partition other) o) false)) is
        ∙ ap (is_of_partition names) ((bytes_eq-Decides space.site.partition partition).0 own')

-- the call has to do with one's own prompts alone
abbrev pub IsOwnPrompt : (ℕ → Bool) → Call → Type 0
IsOwnPrompt owns (Answer p x t) = IsTrue (owns p)
IsOwnPrompt owns (Lose p loss) = IsTrue (owns p)
IsOwnPrompt owns (Take p) = IsTrue (owns p)
IsOwnPrompt owns call = Unit {0}

-- the call has to do with one's own spaces alone
abbrev pub IsOwnSpace : (ℕ → Bool) → List Entry → Call → Type 0
IsOwnSpace mine past (Select s t) = IsTrue (mine s)
IsOwnSpace mine past (Reject s o) = IsTrue (mine s)
IsOwnSpace mine past (Renew gift t) = IsTrue (mine gift.space)
IsOwnSpace mine past (Note gift) = IsTrue (mine gift.space)
IsOwnSpace mine past (Answer p x t) = IsTrue (mine (space_of_prompt past p))
IsOwnSpace mine past call = Unit {0}

preempts_moved : (f : ℕ → ℕ) (call : Call) (target : Target) → preempts (call_renumbered f call) target ≡ preempts call target
preempts_moved f (Answer p x t) target = refl
preempts_moved f (Lose p l) target = refl
preempts_moved f (Take p) target = refl
preempts_moved f call target = refl

fits_moved : (f : ℕ → ℕ) (call : Call) (reply : BookReply) → fits (call_renumbered f call) (reply_renumbered f reply) ≡ fits call reply
fits_moved f Begin (Follow p) = refl
fits_moved f Begin (Lead p o) = refl
fits_moved f Begin reply = refl
fits_moved f (Preempt target) (Follow p) = refl
fits_moved f (Preempt target) (Lead p o) = refl
fits_moved f (Preempt target) reply = refl
fits_moved f (Select s t) (Follow p) = refl
fits_moved f (Select s t) (Lead p o) = refl
fits_moved f (Select s t) reply = refl
fits_moved f (Reject s o) (Follow p) = refl
fits_moved f (Reject s o) (Lead p o') = refl
fits_moved f (Reject s o) reply = refl
fits_moved f (Renew g t) (Follow p) = refl
fits_moved f (Renew g t) (Lead p o) = refl
fits_moved f (Renew g t) reply = refl
fits_moved f (Answer p x t) (Follow p') = refl
fits_moved f (Answer p x t) (Lead p' o) = refl
fits_moved f (Answer p x t) reply = refl
fits_moved f (Lose p l) (Follow p') = refl
fits_moved f (Lose p l) (Lead p' o) = refl
fits_moved f (Lose p l) reply = refl
fits_moved f (Take p) (Follow p') = refl
fits_moved f (Take p) (Lead p' o) = refl
fits_moved f (Take p) reply = refl
fits_moved f (Note g) (Follow p) = refl
fits_moved f (Note g) (Lead p o) = refl
fits_moved f (Note g) reply = refl
fits_moved f End (Follow p) = refl
fits_moved f End (Lead p o) = refl
fits_moved f End reply = refl
fits_moved f (Draw n) (Follow p) = refl
fits_moved f (Draw n) (Lead p o) = refl
fits_moved f (Draw n) reply = refl

module _ (roster : Roster) (names : Tables) (partition : List ℕ) (f : ℕ → ℕ) (keep : Entry → Bool) (owns : ℕ → Bool) (g : ℕ → ℕ) (P : ℕ → Type 0) where
  abbrev mine : ℕ → Bool
  mine = is_of_partition names partition

  -- the past's entries are one's own, or have to do with others alone, and new numbers and places keep the order
  pub record IsParted (past : List Entry) : Type 0 where
    pub spaces : All (IsApart keep mine) past
    pub prompts : All (IsPromptApart keep owns) past
    pub both : All (λ entry. IsApart keep mine entry × IsPromptApart keep owns entry) past
    pub numbering : IsNumbering f owns
    pub placing : IsPlacing g P
    pub places : ArePlaced roster names f keep mine g P past

  -- the nonce of a space of one's own is no other's
  pub record HasOwnNonces (past : List Entry) : Type 0 where
    pub own : (s : ℕ) → IsTrue (mine s) → (terms past s == 0) ≡ false → NoOtherHas names f keep mine (nonce_of names (terms past s)) past

  -- the request is one of the partition
  pub record IsOwnRequest (r : ℕ) : Type 0 where
    pub here : (entry : Entry) → IsTrue (entry.request == r) → IsTrue (keep entry)
    pub sites : (target : Target) (place : Site) → option_and_then (λ request. site request target) (numbered roster.requests r) ≡ Some place → (s : ℕ) → mine s ≡ false → is_of_site names place s ≡ false

  module _ (past : List Entry) (parted : IsParted past) (nonces : HasOwnNonces past) (r : ℕ) (request : IsOwnRequest r) where
    abbrev pub part : List Entry
    part = shrink f keep past

    -- OWN ENTRIES

    own_same : (q q' : Entry → Bool) → ((entry : Entry) → q' (renumbered f entry) ≡ q entry) → list_any q' (own part r) ≡ list_any q (own past r)
    own_same q q' same = own_shrunk f keep r request.here (λ (e : Entry). Unit {0}) q q' (λ entry u is. same entry) past (any_entry past)

    url_same : was_url_told part r ≡ was_url_told past r
    url_same = own_same (λ e. is_url e.reply) (λ e. is_url e.reply) (λ entry. url_moved f entry.reply)

    default_same : (s : ℕ) → was_default_told part r s ≡ was_default_told past r s
    default_same s =
        own_same (λ e. is_default e.reply && selects e.call s) (λ e. is_default e.reply && selects e.call s)
        (λ entry. (let a = default_moved f entry.reply in let b = selects_moved f entry.call s in cc))

    told_same : (gift : Gift) → was_told part r gift ≡ was_told past r gift
    told_same gift = own_same (λ e. is_that_gift (gift_told e.reply) gift) (λ e. is_that_gift (gift_told e.reply) gift) (λ entry. ap (λ o. is_that_gift o gift) (told_moved f entry.reply))

    open_same : (caller : ℕ) → is_open part caller r ≡ is_open past caller r
    open_same caller =
        let began = own_same (λ e. begins e.call && e.caller == caller) (λ e. begins e.call && e.caller == caller) (λ entry. ap (λ b. b && entry.caller == caller) (begins_moved f entry.call)) in
        let ended = own_same (λ e. ends e.call) (λ e. ends e.call) (λ entry. ends_moved f entry.call) in
        let count = own_count f keep r request.here past in
        cc

    none_same : no_entry part r ≡ no_entry past r
    none_same = ap (λ n. n == 0) (own_count f keep r request.here past)

    -- REPLIES

    kept_same : (gift : Gift) (done : BookReply) → IsTrue (mine gift.space) → kept_or part gift done ≡ kept_or past gift done
    kept_same gift done own =
        let held = current_shrunk f keep mine past parted.spaces gift.space own in
        cc

    kept_plain : (gift : Gift) (done : BookReply) → reply_renumbered f done ≡ done → reply_renumbered f (kept_or past gift done) ≡ kept_or past gift done
    kept_plain gift done plain = at (is_that_gift (current past gift.space) gift)
      where
        at : (b : Bool) → reply_renumbered f (cond b done (Kept (current_ordinal past gift.space))) ≡ cond b done (Kept (current_ordinal past gift.space))
        at true = plain
        at false = refl

    evicted_same : (s : ℕ) → IsTrue (mine s) → evicted (is_rival names s) part s ≡ evicted (is_rival names s) past s
    evicted_same s own =
        ap (λ rival. evicted rival part s) (rivals_own names partition s own)
        ∙ (evicted_shrunk f keep mine past parted.spaces s own ∙ sym (ap (λ rival. evicted rival past s) (rivals_own names partition s own)))

    gift_same : (s : ℕ) → IsTrue (mine s) → next_gift part s ≡ next_gift past s
    gift_same s own = ap (λ n. record { space = s; ordinal = n + 1 }) (givings_shrunk f keep mine past parted.spaces s own)

    abbrev choice_moved : Choice → Choice
    choice_moved (ByFollowing p) = ByFollowing (f p)
    choice_moved how = how

    first_moved : (url : Bool) (held : Option Gift) (ambient : Bool) (led : Option Entry) → ((entry : Entry) → led ≡ Some entry → IsTrue (is_lead entry.reply)) → first_choice url held ambient (option_map (renumbered f) led) ≡ choice_moved (first_choice url held ambient led)
    first_moved true held ambient led leads_it = refl
    first_moved false (Some gift) ambient led leads_it = refl
    first_moved false None true led leads_it = refl
    first_moved false None false None leads_it = refl
    first_moved false None false (Some entry) leads_it = ap ByFollowing (led_moved f keep owns parted.numbering entry.reply (leads_it entry refl))

    open_leads : (s : ℕ) (entry : Entry) → open_lead past s ≡ Some entry → IsTrue (is_lead entry.reply)
    open_leads s entry found =
        and_left (is_lead entry.reply) (selects entry.call s)
        (and_left (is_lead entry.reply && selects entry.call s) (not (settled past (prompt_led entry.reply)))
        (found_passes (λ e. is_lead e.reply && selects e.call s && not (settled past (prompt_led e.reply))) past entry found))

    choice_same : (s : ℕ) → IsTrue (mine s) → choice roster names part r s ≡ choice_moved (choice roster names past r s)
    choice_same s own =
        ap (λ b. first_choice (is_server (target_of names s) && has_url_identity roster r && not b) (current part s) (scheme_is names is_negotiate s && is_allowed_origin roster names s && not (was_default_told part r s)) (open_lead part s)) url_same
        ∙ (ap (λ held. first_choice (is_server (target_of names s) && has_url_identity roster r && not (was_url_told past r)) held (scheme_is names is_negotiate s && is_allowed_origin roster names s && not (was_default_told part r s)) (open_lead part s)) (current_shrunk f keep mine past parted.spaces s own)
        ∙ (ap (λ b. first_choice (is_server (target_of names s) && has_url_identity roster r && not (was_url_told past r)) (current past s) (scheme_is names is_negotiate s && is_allowed_origin roster names s && not b) (open_lead part s)) (default_same s)
        ∙ (ap (first_choice (is_server (target_of names s) && has_url_identity roster r && not (was_url_told past r)) (current past s) (scheme_is names is_negotiate s && is_allowed_origin roster names s && not (was_default_told past r s))) (open_lead_shrunk f keep owns parted.numbering mine s own past parted.both parted.prompts)
        ∙ first_moved (is_server (target_of names s) && has_url_identity roster r && not (was_url_told past r)) (current past s) (scheme_is names is_negotiate s && is_allowed_origin roster names s && not (was_default_told past r s)) (open_lead past s) (open_leads s))))

    select_same : (s : ℕ) → IsTrue (mine s) → (how : Choice) → (IsTrue (is_lead (select_answer (is_rival names s) past s how)) → f (leads past + 1) ≡ leads part + 1) → select_answer (is_rival names s) part s (choice_moved how) ≡ reply_renumbered f (select_answer (is_rival names s) past s how)
    select_same s own ByUrl next = let a = gift_same s own in let b = evicted_same s own in cc
    select_same s own (ByCache gift) next = refl
    select_same s own ByDefault next = refl
    select_same s own (ByFollowing p) next = refl
    select_same s own ByLeading next =
        ap (λ n. Lead n (leads_of part s + 1)) (sym (next refl))
        ∙ ap (λ n. Lead (f (leads past + 1)) (n + 1)) (leads_of_shrunk f keep owns parted.numbering mine s own past parted.both)

    given_same : (s x : ℕ) → IsTrue (mine s) → given_answer (is_rival names s) part s x ≡ reply_renumbered f (given_answer (is_rival names s) past s x)
    given_same s x own = at (x == 0)
      where
        at : (b : Bool) → cond b Cancelled (Given (next_gift part s) (evicted (is_rival names s) part s)) ≡ reply_renumbered f (cond b Cancelled (Given (next_gift past s) (evicted (is_rival names s) past s)))
        at true = refl
        at false = let a = gift_same s own in let b = evicted_same s own in cc

    -- what is ready
    epoch_same : (s : ℕ) → IsTrue (mine s) → epoch_of_terms names part (terms past s) ≡ epoch_of_terms names past (terms past s)
    epoch_same s own = at (terms past s == 0) refl
      where
        at : (b : Bool) → (terms past s == 0) ≡ b → cond b 0 (epoch names part (nonce_of names (terms past s))) ≡ cond b 0 (epoch names past (nonce_of names (terms past s)))
        at true is = refl
        at false is = epoch_shrunk names f keep mine past parted.spaces (nonce_of names (terms past s)) (nonces.own s own is)

    ready_same : (s : ℕ) → IsTrue (mine s) → (held : Option Gift) → ready names part s held ≡ reply_renumbered f (ready names past s held)
    ready_same s own None = refl
    ready_same s own (Some gift) =
        ap (λ t. Ready gift t (epoch_of_terms names part t)) (terms_shrunk f keep mine past parted.spaces s own) ∙ ap (λ k. Ready gift (terms past s) k) (epoch_same s own)

    preempt_same : (o : Option ℕ) → ((s : ℕ) → o ≡ Some s → IsTrue (mine s)) → preempt_answer names part o ≡ reply_renumbered f (preempt_answer names past o)
    preempt_same None own = refl
    preempt_same (Some s) own =
        ap (ready names part s) (current_shrunk f keep mine past parted.spaces s (own s refl)) ∙ ready_same s (own s refl) (current past s)

    module _ (target : Target) where
      abbrev p : List ℕ
      p = path_of roster r target

      by_site : (o : Option Site) → option_and_then (λ request. site request target) (numbered roster.requests r) ≡ o →
          (option_and_then (λ place. by_path roster names part place p) o ≡ option_and_then (λ place. by_path roster names past place p) o)
          × ((s : ℕ) → option_and_then (λ place. by_path roster names past place p) o ≡ Some s → IsTrue (mine s))
      by_site None is = (refl, λ s none. cc)
      by_site (Some place) is = (
        by_path_shrunk roster names f keep mine g P parted.placing past parted.spaces parted.places place p (request.sites target place is),
        by_path_own roster names f keep mine g P parted.placing past parted.spaces parted.places place p (request.sites target place is),
      )

      preempted : preempt_answer names part (space_by_path roster names part r target) ≡ reply_renumbered f (preempt_answer names past (space_by_path roster names past r target))
      preempted =
          let both = by_site (option_and_then (λ request. site request target) (numbered roster.requests r)) refl in
          ap (preempt_answer names part) both.0 ∙ preempt_same (space_by_path roster names past r target) both.1

    -- the same reply, its prompt numbered anew
    pub answer_shrunk : (call : Call) → IsOwnPrompt owns call → IsOwnSpace mine past call → (IsTrue (is_lead (answer roster names past r call)) → f (leads past + 1) ≡ leads part + 1) → answer roster names part r (call_renumbered f call) ≡ reply_renumbered f (answer roster names past r call)
    answer_shrunk Begin prompt space next = refl
    answer_shrunk (Preempt target) prompt space next = preempted target
    answer_shrunk (Select s t) prompt space next = ap (select_answer (is_rival names s) part s) (choice_same s space) ∙ select_same s space (choice roster names past r s) next
    answer_shrunk (Reject s o) prompt space next = kept_same (record { space = s; ordinal = o }) Removed space ∙ sym (kept_plain (record { space = s; ordinal = o }) Removed refl)
    answer_shrunk (Renew gift t) prompt space next = kept_same gift Renewed space ∙ sym (kept_plain gift Renewed refl)
    answer_shrunk (Answer p x t) prompt space next =
        ap (λ s. given_answer (is_rival names s) part s x) (space_shrunk f keep owns parted.numbering past parted.prompts p prompt)
        ∙ given_same (space_of_prompt past p) x space
    answer_shrunk (Lose p loss) prompt space next = refl
    answer_shrunk (Take p) prompt space next = end_shrunk f keep owns parted.numbering past parted.prompts p prompt
    answer_shrunk (Note gift) prompt space next = kept_same gift Noted space ∙ sym (kept_plain gift Noted refl)
    answer_shrunk End prompt space next = refl
    answer_shrunk (Draw nonce) prompt space next = refl

    -- CONDITIONS

    settled_same : (prompt : ℕ) → IsTrue (owns prompt) → settled part (f prompt) ≡ settled past prompt
    settled_same prompt own = settled_shrunk f keep owns parted.numbering past parted.prompts prompt own

    led_same : (prompt : ℕ) → IsTrue (owns prompt) → is_led_by part r (f prompt) ≡ is_led_by past r prompt
    led_same prompt own = led_by_shrunk f keep owns parted.numbering past parted.prompts r prompt own

    terms_same : (prompt t : ℕ) → IsTrue (owns prompt) → unwrap_or (option_map (λ (e : Entry). terms_selected e.call == t) (lead part (f prompt))) false ≡ unwrap_or (option_map (λ (e : Entry). terms_selected e.call == t) (lead past prompt)) false
    terms_same prompt t own =
        ap (λ o. unwrap_or (option_map (λ (e : Entry). terms_selected e.call == t) o) false) (lead_shrunk f keep owns parted.numbering past parted.prompts prompt own) ∙ by (lead past prompt)
      where
        by : (o : Option Entry) → unwrap_or (option_map (λ (e : Entry). terms_selected e.call == t) (option_map (renumbered f) o)) false ≡ unwrap_or (option_map (λ (e : Entry). terms_selected e.call == t) o) false
        by None = refl
        by (Some entry) = ap (λ k. k == t) (terms_selected_moved f entry.call)

    wait_same : waits part r ≡ waits past r
    wait_same = waits_shrunk f keep owns parted.numbering r request.here past parted.prompts

    follow_same : (prompt : ℕ) → IsTrue (owns prompt) → list_any (λ e. prompt_followed e.reply == f prompt) (own part r) ≡ list_any (λ e. prompt_followed e.reply == prompt) (own past r)
    follow_same prompt own_p =
        own_shrunk f keep r request.here (IsPromptApart keep owns) (λ e. prompt_followed e.reply == prompt) (λ e. prompt_followed e.reply == f prompt)
        (λ entry apart is. at entry.reply (apart.followed is)) past parted.prompts
      where
        turned : (k : ℕ) → (k == 0) ≡ false → (0 == k) ≡ false
        turned k not_zero = grind (arith, nat_tests)

        nothing : (0 == f prompt) ≡ (0 == prompt)
        nothing = turned (f prompt) (parted.numbering.some prompt own_p) ∙ sym (turned prompt (own_some f keep owns parted.numbering prompt own_p))

        at : (reply : BookReply) → (IsTrue (is_follow reply) → IsTrue (owns (prompt_followed reply))) → (prompt_followed (reply_renumbered f reply) == f prompt) ≡ (prompt_followed reply == prompt)
        at (Follow q) own_q = parted.numbering.once q prompt (own_q refl) own_p
        at (Lead q o) own_q = nothing
        at reply own_q = nothing

    take_same : (prompt : ℕ) → IsTrue (owns prompt) → list_any (λ e. takes e.call (f prompt)) (own part r) ≡ list_any (λ e. takes e.call prompt) (own past r)
    take_same prompt own_p =
        own_shrunk f keep r request.here (IsPromptApart keep owns) (λ e. takes e.call prompt) (λ e. takes e.call (f prompt))
        (λ entry apart is. takes_moved f keep owns parted.numbering entry.call (apart.taken is) prompt own_p) past parted.prompts

    zero_same : (prompt : ℕ) → IsTrue (owns prompt) → (f prompt == 0) ≡ (prompt == 0)
    zero_same prompt own_p = parted.numbering.some prompt own_p ∙ sym (own_some f keep owns parted.numbering prompt own_p)

    -- the same may be asked for
    pub allowed_shrunk : (call : Call) → IsOwnPrompt owns call → allowed_call roster names part r (call_renumbered f call) ≡ allowed_call roster names past r call
    allowed_shrunk Begin own' = refl
    allowed_shrunk (Preempt target) own' =
        ap (λ b. unwrap_or (option_map (λ request. is_on_route request target) (numbered roster.requests r)) false && not b) (own_same (λ e. preempts e.call target) (λ e. preempts e.call target) (λ entry. preempts_moved f entry.call target))
    allowed_shrunk (Select s t) own' = ap (λ b. unwrap_or (option_map (is_site_of roster r) (space_named names s)) false && fits_space names s t && not b) wait_same
    allowed_shrunk (Reject s o) own' =
        let told = told_same (record { space = s; ordinal = o }) in
        let default = default_same s in
        cc
    allowed_shrunk (Renew gift t) own' = ap (λ b. b && scheme_is names is_digest gift.space && has_terms names gift.space t) (told_same gift)
    allowed_shrunk (Answer prompt x t) own' =
        let a = led_same prompt own' in
        let b = settled_same prompt own' in
        let c = terms_same prompt t own' in
        cc
    allowed_shrunk (Lose prompt loss) own' =
        let a = led_same prompt own' in
        let b = settled_same prompt own' in
        cc
    allowed_shrunk (Take prompt) own' =
        let a = zero_same prompt own' in
        let b = follow_same prompt own' in
        let c = take_same prompt own' in
        cc
    allowed_shrunk (Note gift) own' = ap (λ b. b && (scheme_is names is_basic gift.space || scheme_is names is_digest gift.space)) (told_same gift)
    allowed_shrunk End own' = ap not wait_same
    allowed_shrunk (Draw nonce) own' = refl

    -- and of whom
    pub open_shrunk : (caller : ℕ) (call : Call) → cond (begins (call_renumbered f call)) (no_entry part r) (is_open part caller r) ≡ cond (begins call) (no_entry past r) (is_open past caller r)
    open_shrunk caller call =
        let a = begins_moved f call in
        let b = none_same in
        let c = open_same caller in
        cc

    -- a step stays a step
    pub step_shrunk : (entry : Entry) → entry.request ≡ r → IsOwnPrompt owns entry.call → IsOwnSpace mine past entry.call → (IsTrue (is_lead entry.reply) → f (leads past + 1) ≡ leads part + 1) → IsStep roster names past entry → IsStep roster names part (renumbered f entry)
    step_shrunk entry is prompt space next step = (
      subst IsTrue (sym same_allowed) step.0,
      ap (reply_renumbered f) same_reply ∙ (sym (answer_shrunk entry.call prompt space (λ led. next (subst (λ reply. IsTrue (is_lead reply)) (sym same_reply) led))) ∙ sym (ap (λ r'. answer roster names part r' (call_renumbered f entry.call)) is)),
      subst IsTrue (sym (fits_moved f entry.call entry.reply)) step.2,
    )
      where
        same_reply : entry.reply ≡ answer roster names past r entry.call
        same_reply = step.1 ∙ ap (λ r'. answer roster names past r' entry.call) is

        both_same : (cond (begins (call_renumbered f entry.call)) (no_entry part r) (is_open part entry.caller r) && allowed_call roster names part r (call_renumbered f entry.call)) ≡ (cond (begins entry.call) (no_entry past r) (is_open past entry.caller r) && allowed_call roster names past r entry.call)
        both_same =
            let a = open_shrunk entry.caller entry.call in
            let b = allowed_shrunk entry.call prompt in
            cc

        same_allowed : allowed roster names part entry.caller entry.request (call_renumbered f entry.call) ≡ allowed roster names past entry.caller entry.request entry.call
        same_allowed = ap (λ r'. allowed roster names part entry.caller r' (call_renumbered f entry.call)) is ∙ (both_same ∙ sym (ap (λ r'. allowed roster names past entry.caller r' entry.call) is))
