-- What an index that stands for a legal history replies is the book's answer.
use Rattle.std.proofs.Common.{◌≡◌, ℕ, Bool, true, false, not, ◌&&◌, cond, List, length, refl, ap, sym, ◌∙◌, ◌⊎◌, inl, inr, arith, Option, Some, None}
use Rattle.std.specs.Prelude.{IsTrue, is_some, option_map, option_and_then, unwrap_or, ◌==◌}
use Rattle.std.proofs.lemmas.Bool.{false≢true}
use Rattle.spaces.specs.declared.roster.Roster.{Roster}
use Rattle.spaces.specs.declared.roster.Request.{Request}
use Rattle.spaces.specs.declared.site.Site.{Site}
use Rattle.spaces.specs.declared.site.Target.{Target}
use Rattle.spaces.specs.declared.site.Target.TheVariants.{Server, Proxy, Socks}
use Rattle.spaces.specs.Sites.{numbered, same_site, site}
use Rattle.auth_events.specs.declared.journal.Gift.{Gift}
use Rattle.auth_events.specs.declared.journal.Entry.{Entry}
use Rattle.auth_events.specs.declared.journal.Call.{Call}
use Rattle.auth_events.specs.declared.journal.Call.TheVariants.{Begin, Preempt, Select, Reject, Renew, Answer, Lose, Take, Note, End, Draw}
use Rattle.auth_events.specs.declared.journal.BookReply.TheVariants.{Ready, Url, Removed, Renewed, Given, Cancelled, Pending, Noted}
use Rattle.auth_events.specs.Tables.{AreFew, AreNames, Tables}
use Rattle.auth_events.specs.Past.{current, evicted, lead, open_lead, terms}
use Rattle.auth_events.specs.Book.{IsLegalPast, allowed, allowed_call, answer, begins, by_path, epoch, epoch_of_terms, first_choice, fits_space, has_url_identity, is_allowed_origin, is_negotiate, is_of_partition, is_open, is_rival, is_server, is_site_of, next_gift, no_entry, nonce_of, path_of, preempt_answer, ready, scheme_is, select_answer, space_named, space_of_prompt, target_of, waits, was_default_told, was_url_told}
use Rattle.auth_events.proofs.Numbers.{and_left, and_right, some_of_test}
use Rattle.history_laws.proofs.Homes.{answered_led, leader_site}
use Rattle.auth_events.proofs.NamedThings.{terms_named}
use Rattle.auth_cache.specs.Histories.{held_after}
use Rattle.path_lookup.proofs.Deepest.{deepest_is, site_partition}
use Rattle.prompt_queue.specs.Prompts.{ending_of, joined, prompt_of}
use Rattle.prompt_queue.specs.Histories.{prompt_in, prompts_of, reply_joined, reply_taken}
use Rattle.prompt_queue.proofs.Prompting.{joins, prompt_found}
use Rattle.prompt_queue.proofs.HistoryLemmas.{may_tell, takes_end}
use Rattle.auth_book.specs.declared.index.BookIndex.{BookIndex}
use Rattle.auth_book.specs.SiteNumbers.{site_no}
use Rattle.auth_book.specs.Indices.{StandsFor, request_row, was_default_for}
use Rattle.auth_book.specs.Replies.{deepest_at, default_flag, default_in, epoch_in, evicted_in, held_of, led_in, next_in, ready_in, reply_in, select_in, site_at, url_in}
use Rattle.auth_book.specs.Parts.{notes_at, part_of}
use Rattle.auth_book.proofs.Here.{goes_here, held_here, held_none, zero_unheld}
use Rattle.auth_book.proofs.Replies.{keeps, next}
use Rattle.auth_book.proofs.Standing.{nonce_range}
use Rattle.auth_book.proofs.PagesOf.{pages_of}
use Rattle.auth_book.proofs.Leads.{led_is}
use Rattle.auth_book.proofs.LiveSites.{tells_site}
use Rattle.auth_book.proofs.Defaults.{IsAmbient, ambient_of, default_is}

given_same : (g h : Gift) (e f : ℕ) → g ≡ h → e ≡ f → Given g e ≡ Given h f
given_same g h e f same_g same_e = cc

url_same : (g h : Gift) (e f : ℕ) → g ≡ h → e ≡ f → Url g e ≡ Url h f
url_same g h e f same_g same_e = cc

flag_is : (names : Tables) (past : List Entry) (r : ℕ) (target : Target) → default_flag (request_row names past r) target ≡ was_default_for names past r target
flag_is names past r Server = refl
flag_is names past r Proxy = refl
flag_is names past r Socks = refl

module _ (roster : Roster) (names : Tables) (are : AreNames names) (few : AreFew (length roster.requests) names) (past : List Entry) (legal : IsLegalPast roster names past) (index : BookIndex) (stands : StandsFor index roster names past) where
  led_here : (p : ℕ) → led_in index p ≡ space_of_prompt past p
  led_here p = ap (λ xs. unwrap_or (numbered xs p) 0) stands.led ∙ led_is roster names past legal p

  here : (s : ℕ) → held_of index s ≡ held_after past s
  here = held_here roster names past legal index stands

  zero_none : held_of index 0 ≡ None
  zero_none = here 0 ∙ held_none roster names past legal 0 (zero_unheld roster names past legal)

  -- ANSWER

  answered : (r p text t : ℕ) → IsTrue (allowed_call roster names past r (Answer p text t)) → reply_in index roster names r (Answer p text t) ≡ answer roster names past r (Answer p text t)
  answered r p text t may =
      ap (λ s. cond (text == 0) Cancelled (Given (next_in index s) (evicted_in index s))) (led_here p)
      ∙ ap (λ reply. cond (text == 0) Cancelled reply)
      (given_same (next_in index (space_of_prompt past p)) (next_gift past (space_of_prompt past p)) (evicted_in index (space_of_prompt past p)) (evicted (is_rival names (space_of_prompt past p)) past (space_of_prompt past p))
      (next index roster names past legal stands (space_of_prompt past p) named) (goes_here roster names past legal index stands (space_of_prompt past p) named))
    where
      named : IsTrue (is_some (numbered names.spaces (space_of_prompt past p)))
      named = some_of_test (is_site_of roster r) (space_named names (space_of_prompt past p)) (leader_site roster names past legal r p (answered_led roster names past r p text t may))

  -- TAKE

  taken : (r p : ℕ) → IsTrue (allowed_call roster names past r (Take p)) → reply_in index roster names r (Take p) ≡ answer roster names past r (Take p)
  taken r p may =
      ap (λ s. unwrap_or (option_map (reply_taken s) (ending_of index.prompts.prompts p)) Pending) (led_here p)
      ∙ (ap (λ ps. unwrap_or (option_map (reply_taken (space_of_prompt past p)) (ending_of ps p)) Pending) stands.prompts
      ∙ ap (λ o. unwrap_or o Pending) (takes_end roster names past legal p (led (lead past p) refl)))
    where
      there : IsTrue (is_some (prompt_of (prompts_of past) p))
      there = may_tell roster names past r (Take p) legal may

      led : (o : Option Entry) → lead past p ≡ o → IsTrue (is_some (lead past p))
      led None none =
          absurd (false≢true (sym (ap is_some (prompt_found past past p ∙ ap (option_map (prompt_in past)) none)) ∙ there))
      led (Some entry) is = ap is_some is

  -- SELECT

  url_flag : (r : ℕ) (server : Bool) → (server && has_url_identity roster r && not (url_in index r)) ≡ (server && has_url_identity roster r && not (was_url_told past r))
  url_flag r server = at (numbered roster.requests r) refl
    where
      no_url : (a : Bool) (x y : Bool) → (a && false && x) ≡ (a && false && y)
      no_url true x y = refl
      no_url false x y = refl

      at : (o : Option Request) → numbered roster.requests r ≡ o → (server && unwrap_or (option_map (λ request. is_some request.place.identity) o) false && not (url_in index r)) ≡ (server && unwrap_or (option_map (λ request. is_some request.place.identity) o) false && not (was_url_told past r))
      at None none = no_url server (not (url_in index r)) (not (was_url_told past r))
      at (Some request) there =
          ap (λ row. server && is_some request.place.identity && not (unwrap_or (option_map (λ x. x.url) row) false))
          (stands.requests r ∙ ap (option_map (λ _. request_row names past r)) there)

  ambient_flag : (r s : ℕ) → IsTrue (unwrap_or (option_map (is_site_of roster r) (space_named names s)) false) → (scheme_is names is_negotiate s && is_allowed_origin roster names s && not (default_in index r (target_of names s))) ≡ (scheme_is names is_negotiate s && is_allowed_origin roster names s && not (was_default_told past r s))
  ambient_flag r s of_site = at (scheme_is names is_negotiate s) refl
    where
      flag : IsAmbient roster names are r s → default_in index r (target_of names s) ≡ was_default_told past r s
      flag here =
          ap (λ row. unwrap_or (option_map (λ x. default_flag x (target_of names s)) row) false) (stands.requests r)
          ∙ (there (numbered roster.requests r) here.here ∙ (flag_is names past r (target_of names s) ∙ default_is roster names are r s here past legal))
        where
          there : (o : Option Request) → IsTrue (unwrap_or (option_map (λ place. same_site place here.space.site) (option_and_then (λ request. site request here.space.site.target) o)) false) → unwrap_or (option_map (λ x. default_flag x (target_of names s)) (option_map (λ _. request_row names past r) o)) false ≡ default_flag (request_row names past r) (target_of names s)
          there None some = absurd (false≢true some)
          there (Some request) some = refl

      at : (b : Bool) → scheme_is names is_negotiate s ≡ b → (b && is_allowed_origin roster names s && not (default_in index r (target_of names s))) ≡ (b && is_allowed_origin roster names s && not (was_default_told past r s))
      at false other = refl
      at true negotiate = ap (λ b. is_allowed_origin roster names s && not b) (flag (ambient_of roster names are r s of_site negotiate))

  by_choice : (s : ℕ) → IsTrue (is_some (numbered names.spaces s)) → (url : Bool) (held : Option Gift) (ambient : Bool) → select_in index s url (option_map (λ (gift : Gift). record { gift = gift; terms = terms past s }) held) ambient ≡ select_answer (is_rival names s) past s (first_choice url held ambient (open_lead past s))
  by_choice s named true held ambient =
      url_same (next_in index s) (next_gift past s) (evicted_in index s) (evicted (is_rival names s) past s) (next index roster names past legal stands s named) (goes_here roster names past legal index stands s named)
  by_choice s named false (Some gift) ambient = refl
  by_choice s named false None true = refl
  by_choice s named false None false =
      ap (λ ps. reply_joined (joined ps s)) stands.prompts ∙ joins roster names past legal (is_rival names s) s

  selected : (r s t : ℕ) → IsTrue (allowed_call roster names past r (Select s t)) → reply_in index roster names r (Select s t) ≡ answer roster names past r (Select s t)
  selected r s t may =
      ap (λ url. select_in index s url (held_of index s) (scheme_is names is_negotiate s && is_allowed_origin roster names s && not (default_in index r (target_of names s)))) (url_flag r (is_server (target_of names s)))
      ∙ (ap (λ ambient. select_in index s url_now (held_of index s) ambient) (ambient_flag r s of_site)
      ∙ (ap (λ held. select_in index s url_now held ambient_now) (here s)
      ∙ by_choice s (some_of_test (is_site_of roster r) (space_named names s) of_site) url_now (current past s) ambient_now))
    where
      of_site : IsTrue (unwrap_or (option_map (is_site_of roster r) (space_named names s)) false)
      of_site =
          let there = unwrap_or (option_map (is_site_of roster r) (space_named names s)) false in
          and_left there (fits_space names s t) (and_left (there && fits_space names s t) (not (waits past r)) may)

      url_now : Bool
      url_now = is_server (target_of names s) && has_url_identity roster r && not (was_url_told past r)

      ambient_now : Bool
      ambient_now = scheme_is names is_negotiate s && is_allowed_origin roster names s && not (was_default_told past r s)

  -- PREEMPT

  epoch_here : (t : ℕ) → (t ≡ 0) ⊎ IsTrue (is_some (numbered names.terms t)) → epoch_in index names t ≡ epoch_of_terms names past t
  epoch_here t (inl none) =
      ap (λ b. cond b 0 (unwrap_or (numbered index.epochs.items (nonce_of names t)) 0)) (ap (λ n. n == 0) none)
      ∙ sym (ap (λ b. cond b 0 (epoch names past (nonce_of names t))) (ap (λ n. n == 0) none))
  epoch_here t (inr named) =
      let range = nonce_range names are t named in
      let most = few.nonces in
      ap (λ o. cond (t == 0) 0 (unwrap_or o 0)) (stands.epochs (nonce_of names t) range.0 (omega (arith, range.1, most)))

  ready_here : (s : ℕ) → ready_in index names (held_of index s) ≡ ready names past s (current past s)
  ready_here s = ap (ready_in index names) (here s) ∙ at (current past s)
    where
      at : (o : Option Gift) → ready_in index names (option_map (λ (gift : Gift). record { gift = gift; terms = terms past s }) o) ≡ ready names past s o
      at None = refl
      at (Some gift) = ap (Ready gift (terms past s)) (epoch_here (terms past s) (terms_named roster names (length roster.requests) past (pages_of roster names past legal) legal s))

  found_here : (place : Site) (path : List ℕ) → deepest_at index roster names path place ≡ unwrap_or (by_path roster names past place path) 0
  found_here place path =
      deepest_is roster names (site_no names) (is_of_partition names place.partition) past legal (notes_at (part_of index.partitions place.partition)) (stands.paths place.partition) (site_at index names place) place path (site_partition names place)
      (tells_site roster names past legal index stands place)

  preempted : (r : ℕ) (target : Target) → reply_in index roster names r (Preempt target) ≡ answer roster names past r (Preempt target)
  preempted r target = at (option_and_then (λ request. site request target) (numbered roster.requests r))
    where
      path : List ℕ
      path = path_of roster r target

      found : (o : Option ℕ) → ready_in index names (held_of index (unwrap_or o 0)) ≡ preempt_answer names past o
      found None = ap (ready_in index names) zero_none
      found (Some s) = ready_here s

      at : (o : Option Site) → ready_in index names (held_of index (unwrap_or (option_map (deepest_at index roster names path) o) 0)) ≡ preempt_answer names past (option_and_then (λ place. by_path roster names past place (path_of roster r target)) o)
      at None = ap (ready_in index names) zero_none
      at (Some place) =
          ap (λ s. ready_in index names (held_of index s)) (found_here place path)
          ∙ found (by_path roster names past place (path_of roster r target))

  -- EACH CALL

  replies : (r : ℕ) (call : Call) → IsTrue (allowed_call roster names past r call) → reply_in index roster names r call ≡ answer roster names past r call
  replies r Begin may = refl
  replies r (Preempt target) may = preempted r target
  replies r (Select s t) may = selected r s t may
  replies r (Reject s o) may = keeps index roster names past legal stands (record { space = s; ordinal = o }) Removed
  replies r (Renew gift t) may = keeps index roster names past legal stands gift Renewed
  replies r (Answer p text t) may = answered r p text t may
  replies r (Lose p loss) may = refl
  replies r (Take p) may = taken r p may
  replies r (Note gift) may = keeps index roster names past legal stands gift Noted
  replies r End may = refl
  replies r (Draw nonce) may = refl

  pub replies_so : (caller r : ℕ) (call : Call) → IsTrue (allowed roster names past caller r call) → reply_in index roster names r call ≡ answer roster names past r call
  replies_so caller r call may =
      replies r call (and_right (cond (begins call) (no_entry past r) (is_open past caller r)) (allowed_call roster names past r call) may)
