-- What a partition has alone of a legal past is legal.
use Rattle.std.proofs.Common.{◌≡◌, ℕ, ◌+◌, Bool, true, false, not, ◌&&◌, cond, List, [], ◌∷◌, refl, ap, sym, ◌∙◌, Option, Some, None}
use Rattle.std.specs.Prelude.{All, IsTrue, is_some, option_map, option_and_then, unwrap_or, bytes_eq, ◌==◌}
use Rattle.std.specs.List.{list_any}
use Rattle.std.proofs.lemmas.Bool.{false≢true}
use Rattle.std.proofs.lemmas.Option.{none-some}
use Rattle.std.proofs.lemmas.List.Elements.{All-nil, All-cons}
use Rattle.spaces.specs.declared.roster.Roster.{Roster}
use Rattle.spaces.specs.declared.roster.Request.{Request}
use Rattle.spaces.specs.declared.site.Site.{Site}
use Rattle.spaces.specs.declared.site.Target.{Target}
use Rattle.spaces.specs.ProtectionSpaces.{ProtectionSpace}
use Rattle.spaces.specs.Sites.{numbered, site, same_site}
use Rattle.auth_events.specs.declared.journal.Call.{Call}
use Rattle.auth_events.specs.declared.journal.Call.TheVariants.{Begin, Preempt, Select, Reject, Renew, Answer, Lose, Take, Note, End, Draw}
use Rattle.auth_events.specs.declared.journal.Entry.{Entry}
use Rattle.auth_events.specs.Tables.{Tables, AreNames}
use Rattle.auth_events.specs.Past.{lead, leads, prompt_followed, settled, settles, terms}
use Rattle.auth_events.specs.Book.{IsLegalPast, allowed, allowed_call, answer, is_led_by, is_of_partition, is_of_site, own, space_named, space_of_prompt, begins, no_entry, is_open, takes}
use Rattle.history_laws.specs.Laws.{is_site_named}
use Rattle.auth_events.proofs.Numbers.{and_left, and_right}
use Rattle.auth_events.proofs.Same.{number_same, number_refl, site_same}
use Rattle.history_laws.proofs.Homes.{selected_site, answered_led, leader_site}
use Rattle.history_laws.proofs.Telling.{has_followed}
use Rattle.isolation.specs.Partitions.{is_in, call_renumbered, reply_renumbered, renumbered}
use Rattle.isolation.proofs.Parts.{kept, shrink}
use Rattle.isolation.proofs.Rivals.{IsApart}
use Rattle.isolation.proofs.Prompts.{IsPromptApart}
use Rattle.isolation.proofs.Steps.{IsParted, HasOwnNonces, IsOwnRequest, IsOwnPrompt, IsOwnSpace, answer_shrunk, allowed_shrunk, open_shrunk, step_shrunk}
use Rattle.isolation.proofs.Home.{keep, site_side, is_apart, rejected_site, renewed_site, noted_site, partition_of_site, fails_apart, opposite'}
use Rattle.isolation.proofs.Placing.{before, stands, placing}
use Rattle.isolation.proofs.Numbering.{led_own, number_in, owned, numbering, number_other, unled_next}
use Rattle.isolation.proofs.Within.{IsWithin, within_tail, are_placed, next_number}
use Rattle.isolation.proofs.Leaders.{is_prompt_apart, settles_side, takes_side}
use Rattle.isolation.proofs.Nonces.{terms_home, nonce_side, none_other}

module _ (roster : Roster) (names : Tables) (are : AreNames names) (partition : List ℕ) (whole : List Entry) (all_legal : IsLegalPast roster names whole) where
  abbrev ours : Entry → Bool
  ours = keep roster names partition

  abbrev own_space : ℕ → Bool
  own_space = is_of_partition names partition

  abbrev owns : ℕ → Bool
  owns = owned ours whole

  abbrev number : ℕ → ℕ
  number = number_in (led_own ours whole)

  abbrev Within : List Entry → Type 0
  Within = IsWithin roster names ours whole

  all_spaces : (past : List Entry) → IsLegalPast roster names past → All (IsApart ours own_space) past
  all_spaces [] legal = All-nil (IsApart ours own_space)
  all_spaces (entry ∷ past) legal = All-cons (IsApart ours own_space) entry past (is_apart roster names partition entry past legal.0 legal.1) (all_spaces past legal.0)

  all_prompts : (past : List Entry) → IsLegalPast roster names past → Within past → All (IsPromptApart ours owns) past
  all_prompts [] legal within = All-nil (IsPromptApart ours owns)
  all_prompts (entry ∷ past) legal within =
      let older = within_tail roster names ours whole entry past legal within in
      All-cons (IsPromptApart ours owns) entry past (is_prompt_apart roster names partition whole entry past legal.0 legal.1 within.led older.led) (all_prompts past legal.0 older)

  all_both : (past : List Entry) → IsLegalPast roster names past → Within past → All (λ entry. IsApart ours own_space entry × IsPromptApart ours owns entry) past
  all_both [] legal within = All-nil (λ entry. IsApart ours own_space entry × IsPromptApart ours owns entry)
  all_both (entry ∷ past) legal within =
      let older = within_tail roster names ours whole entry past legal within in
      All-cons (λ entry. IsApart ours own_space entry × IsPromptApart ours owns entry) entry past
      (is_apart roster names partition entry past legal.0 legal.1, is_prompt_apart roster names partition whole entry past legal.0 legal.1 within.led older.led)
      (all_both past legal.0 older)

  parted : (past : List Entry) → IsLegalPast roster names past → Within past → IsParted roster names partition number ours owns (before ours whole) (λ k. IsTrue (stands ours whole k)) past
  parted past legal within =
      record {
        spaces = all_spaces past legal;
        prompts = all_prompts past legal within;
        both = all_both past legal within;
        numbering = numbering ours roster names whole all_legal;
        placing = placing ours whole;
        places = are_placed roster names ours whole number own_space past legal within;
      }

  own_nonces : (past : List Entry) → IsLegalPast roster names past → HasOwnNonces roster names partition number ours owns (before ours whole) (λ k. IsTrue (stands ours whole k)) past
  own_nonces past legal =
      record { own = λ s own some. none_other roster names are partition number ours _ (nonce_side roster names are partition s (terms past s) (terms_home roster names past legal s some) ∙ own) past legal }

  own_request : (r : ℕ) → IsTrue (is_in roster partition r) → IsOwnRequest roster names partition number ours owns (before ours whole) (λ k. IsTrue (stands ours whole k)) r
  own_request r own =
      record {
        here = λ entry is. ap (is_in roster partition) (number_same entry.request r is) ∙ own;
        sites = λ target place is s foreign. fails_apart (is_in roster partition r) (own_space s) (opposite' (is_in roster partition r) (own_space s) own foreign) (is_of_site names place s) (same_side target place s (numbered roster.requests r) is (space_named names s));
      }
    where
      same_side : (target : Target) (place : Site) (s : ℕ) (o : Option Request) → option_and_then (λ request. site request target) o ≡ Some place → (named : Option ProtectionSpace) → IsTrue (unwrap_or (option_map (λ (space : ProtectionSpace). same_site space.site place) named) false) → unwrap_or (option_map (λ (request : Request). bytes_eq request.partition partition) o) false ≡ unwrap_or (option_map (λ (space : ProtectionSpace). bytes_eq space.site.partition partition) named) false
      same_side target place s None is named same = absurd (none-some place is)
      same_side target place s (Some request) is None same = absurd (false≢true same)
      same_side target place s (Some request) is (Some space) same =
          ap (λ q. bytes_eq q partition) (partition_of_site request target place is ∙ sym (ap (λ (p : Site). p.partition) (site_same space.site place same)))

  -- a request of one's own may ask for one's own prompts and spaces
  module _ (past : List Entry) (legal : IsLegalPast roster names past) (stays : (p : ℕ) → IsTrue (is_some (lead past p)) → lead whole p ≡ lead past p) (r : ℕ) (here : IsTrue (is_in roster partition r)) where
    own_settled : (call : Call) → IsTrue (allowed_call roster names past r call) → (p : ℕ) → IsTrue (settles call p) → IsTrue (owns p)
    own_settled call may p is = sym (settles_side roster names partition whole past legal stays r call may p is) ∙ here

    own_prompt : (call : Call) → IsTrue (allowed_call roster names past r call) → IsOwnPrompt owns call
    own_prompt (Answer p x t) may = own_settled (Answer p x t) may p (number_refl p)
    own_prompt (Lose p loss) may = own_settled (Lose p loss) may p (number_refl p)
    own_prompt (Take p) may = sym (takes_side roster names partition whole past legal stays r (Take p) may p (number_refl p)) ∙ here
    own_prompt call may = tt

    own_site : (s : ℕ) → IsTrue (is_site_named roster names r s) → IsTrue (own_space s)
    own_site s site = sym (site_side roster names partition r s site) ∙ here

    own_space_asked : (call : Call) → IsTrue (allowed_call roster names past r call) → IsOwnSpace own_space past call
    own_space_asked (Select s t) may = own_site s (selected_site roster names past r s t may)
    own_space_asked (Reject s o) may = own_site s (rejected_site roster names past legal r s o may)
    own_space_asked (Renew gift t) may = own_site gift.space (renewed_site roster names past legal r gift t may)
    own_space_asked (Answer p x t) may = own_site (space_of_prompt past p) (leader_site roster names past legal r p (answered_led roster names past r p x t may))
    own_space_asked (Note gift) may = own_site gift.space (noted_site roster names past legal r gift may)
    own_space_asked call may = tt

  part_legal : (past : List Entry) → IsLegalPast roster names past → Within past → IsLegalPast roster names (shrink number ours past)
  part_legal [] legal within = tt
  part_legal (entry ∷ past) legal within = at (ours entry) refl (part_legal past legal.0 older)
    where
      older : Within past
      older = within_tail roster names ours whole entry past legal within

      may : IsTrue (allowed_call roster names past entry.request entry.call)
      may = and_right (cond (begins entry.call) (no_entry past entry.request) (is_open past entry.caller entry.request)) (allowed_call roster names past entry.request entry.call) legal.1.0

      at : (b : Bool) → ours entry ≡ b → IsLegalPast roster names (shrink number ours past) → IsLegalPast roster names (kept b (renumbered number entry) (shrink number ours past))
      at false is before' = before'
      at true is before' = (
        before',
        step_shrunk roster names partition number ours owns (before ours whole) (λ k. IsTrue (stands ours whole k)) past (parted past legal.0 older) (own_nonces past legal.0) entry.request (own_request entry.request is) entry refl
            (own_prompt past legal.0 older.led entry.request is entry.call may) (own_space_asked past legal.0 older.led entry.request is entry.call may)
            (λ led. next_number roster names ours whole number entry past legal within is led) legal.1,
      )

  all_within : Within whole
  all_within = record { numbers = λ p n found. found; places = λ k le. refl; stood = λ k is. is; led = λ p some. refl }

  abbrev pub part : List Entry
  part = shrink number ours whole

  pub part_of_whole : IsLegalPast roster names part
  part_of_whole = part_legal whole all_legal all_within

  -- THE NEXT CALL

  module _ (r : ℕ) (here : IsTrue (is_in roster partition r)) where
    -- the next lead has the next number
    pub same_answer : (call : Call) → IsTrue (allowed_call roster names whole r call) → answer roster names part r (call_renumbered number call) ≡ reply_renumbered number (answer roster names whole r call)
    same_answer call may =
        answer_shrunk roster names partition number ours owns (before ours whole) (λ k. IsTrue (stands ours whole k)) whole (parted whole all_legal all_within) (own_nonces whole all_legal) r (own_request r here) call
        (own_prompt whole all_legal all_within.led r here call may) (own_space_asked whole all_legal all_within.led r here call may)
        (λ led. number_other ours roster names number whole all_legal (leads whole + 1) (ap (λ o. unwrap_or (option_map ours o) false) (unled_next ours roster names whole all_legal)))

    -- what has to do with a prompt that isn't one's own may be asked of neither
    unled_part : (p : ℕ) → owns p ≡ false → lead part (number p) ≡ None
    unled_part p other = ap (lead part) (number_other ours roster names number whole all_legal p other) ∙ unled_next ours roster names part part_of_whole

    none_led : (p : ℕ) → owns p ≡ false → is_led_by part r (number p) ≡ false
    none_led p other = ap (λ o. unwrap_or (option_map (λ (e : Entry). e.request == r) o) false) (unled_part p other)

    not_when : (b : Bool) → (IsTrue b → ⊥) → b ≡ false
    not_when true never = absurd (never refl)
    not_when false never = refl

    none_allowed : (call : Call) → (IsOwnPrompt owns call → ⊥) → allowed_call roster names whole r call ≡ false
    none_allowed call foreign = not_when (allowed_call roster names whole r call) (λ may. foreign (own_prompt whole all_legal all_within.led r here call may))

    none_followed : (p : ℕ) → owns p ≡ false → IsTrue (allowed_call roster names part r (Take (number p))) → ⊥
    none_followed p other may =
        let first = and_left (not (number p == 0) && list_any (λ e. prompt_followed e.reply == number p) (own part r)) (not (list_any (λ e. takes e.call (number p)) (own part r))) may in
        let this = has_followed roster names part part_of_whole r (number p) (and_left (not (number p == 0)) (list_any (λ e. prompt_followed e.reply == number p) (own part r)) first) (and_right (not (number p == 0)) (list_any (λ e. prompt_followed e.reply == number p) (own part r)) first) in
        false≢true (sym (ap is_some (unled_part p other)) ∙ this.prompt.0)

    own_allowed : (call : Call) → IsOwnPrompt owns call → allowed_call roster names part r (call_renumbered number call) ≡ allowed_call roster names whole r call
    own_allowed call prompt =
        allowed_shrunk roster names partition number ours owns (before ours whole) (λ k. IsTrue (stands ours whole k)) whole (parted whole all_legal all_within) (own_nonces whole all_legal) r (own_request r here) call prompt

    same_allowed_call : (call : Call) → allowed_call roster names part r (call_renumbered number call) ≡ allowed_call roster names whole r call
    same_allowed_call (Answer p x t) = at (owns p) refl
      where
        at : (b : Bool) → owns p ≡ b → allowed_call roster names part r (Answer (number p) x t) ≡ allowed_call roster names whole r (Answer p x t)
        at true is = own_allowed (Answer p x t) is
        at false is =
            not_when (allowed_call roster names part r (Answer (number p) x t)) (λ may. false≢true (sym (none_led p is) ∙ answered_led roster names part r (number p) x t may))
            ∙ sym (none_allowed (Answer p x t) (λ mine. false≢true (sym is ∙ mine)))
    same_allowed_call (Lose p loss) = at (owns p) refl
      where
        at : (b : Bool) → owns p ≡ b → allowed_call roster names part r (Lose (number p) loss) ≡ allowed_call roster names whole r (Lose p loss)
        at true is = own_allowed (Lose p loss) is
        at false is =
            ap (λ b. b && not (settled part (number p))) (none_led p is) ∙ sym (none_allowed (Lose p loss) (λ mine. false≢true (sym is ∙ mine)))
    same_allowed_call (Take p) = at (owns p) refl
      where
        at : (b : Bool) → owns p ≡ b → allowed_call roster names part r (Take (number p)) ≡ allowed_call roster names whole r (Take p)
        at true is = own_allowed (Take p) is
        at false is =
            not_when (allowed_call roster names part r (Take (number p))) (none_followed p is) ∙ sym (none_allowed (Take p) (λ mine. false≢true (sym is ∙ mine)))
    same_allowed_call Begin = own_allowed Begin tt
    same_allowed_call (Preempt target) = own_allowed (Preempt target) tt
    same_allowed_call (Select s t) = own_allowed (Select s t) tt
    same_allowed_call (Reject s o) = own_allowed (Reject s o) tt
    same_allowed_call (Renew gift t) = own_allowed (Renew gift t) tt
    same_allowed_call (Note gift) = own_allowed (Note gift) tt
    same_allowed_call End = own_allowed End tt
    same_allowed_call (Draw nonce) = own_allowed (Draw nonce) tt

    pub same_allowed : (caller : ℕ) (call : Call) → allowed roster names part caller r (call_renumbered number call) ≡ allowed roster names whole caller r call
    same_allowed caller call =
        let a = open_shrunk roster names partition number ours owns (before ours whole) (λ k. IsTrue (stands ours whole k)) whole (parted whole all_legal all_within) (own_nonces whole all_legal) r (own_request r here) caller call in
        let b = same_allowed_call call in
        ap (λ x. x && allowed_call roster names part r (call_renumbered number call)) a ∙ ap (λ x. cond (begins call) (no_entry whole r) (is_open whole caller r) && x) b
