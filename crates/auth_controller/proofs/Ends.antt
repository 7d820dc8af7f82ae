-- A machine that one caller begins to serve, and one that is over.
use Rattle.std.proofs.Common.{◌≡◌, ◌⊎◌, inl, inr, ℕ, ◌+◌, ◌*◌, ◌^◌, ◌≤◌, Bool, true, false, not, ◌||◌, ◌==◌, if◌then◌else◌, IsTrue, List, [], ◌∷◌, length, reverse, Some, refl, sym, ap, ◌∙◌, subst, arith}
use Rattle.std.proofs.lemmas.Bool.{false≢true}
use Rattle.std.proofs.lemmas.List.{reverse-reverse}
use Rattle.std.proofs.lemmas.List.Sums.{sum_by-append}
use Rattle.std.proofs.Common.{cond}
use Rattle.spaces.specs.declared.roster.Request.{Request}
use Rattle.spaces.specs.declared.roster.Roster.{Roster}
use Rattle.spaces.specs.Sites.{numbered}
use Rattle.auth_events.specs.declared.journal.Call.TheVariants.{Begin, Lose}
use Rattle.auth_events.specs.declared.journal.Drawn.{Drawn}
use Rattle.auth_events.specs.declared.journal.Entry.{Entry}
use Rattle.auth_events.specs.declared.told.Told.{Told}
use Rattle.auth_events.specs.Book.{IsLegalPast, begins, own}
use Rattle.auth_events.specs.Tables.{AreFew, AreNames, Tables}
use Rattle.auth_events.specs.Told.{names_told, past}
use Rattle.auth_runs.specs.declared.event.Event.{Event}
use Rattle.book_laws.proofs.Sharing.{adds_none}
use Rattle.plain_book.specs.Words.{draws_of}
use Rattle.trace_rule.specs.Settings.{Setting, setting_of}
use Rattle.trace_rule.specs.Entries.{calls}
use Rattle.trace_rule.specs.Traces.{IsCut, IsCutAt, IsPast, IsRun, IsTrace, is_over, is_spent, may_cut, prompt_open, with_loss}
use Rattle.trace_rule.proofs.Ending.{began}
use Rattle.std.specs.List.{list_any}
use Rattle.auth_events.specs.declared.journal.BookReply.TheVariants.{Lost}
use Rattle.auth_events.specs.declared.journal.Loss.TheVariants.{Memory}
use Rattle.auth_runs.specs.declared.event.Event.TheVariants.{Called}
use Rattle.serving_laws.specs.Knowing.{KnowsBook}
use Rattle.serving_laws.specs.Alone.{IsAlone, entries_of, has_open_prompt}
use Rattle.serving_laws.specs.Draws.{AreEpochs}
use Rattle.serving_laws.specs.Meeting.{AreNamesMet, none_pending}
use Rattle.serving_laws.specs.Rooms.{HasNamed, begun}
use Rattle.serving_laws.specs.Service.{IsServed, IsServedAlone}
use Rattle.serving_laws.proofs.Cutting.{closed_at_end}
use Rattle.serving_laws.proofs.Knowing.{knows_itself}
use Rattle.serving_laws.proofs.Meeting.{met_none}
use Rattle.serving_laws.proofs.Rooms.{some_begun}
use Rattle.std.proofs.Common.{Option, None, append-nil, option_map, unwrap_or}
use Rattle.link_trait.specs.declared.links.LinkName.{LinkName}
use Rattle.link_trait.specs.Links.{IsUndialed, has_link}
use Rattle.link_trait.specs.Told.{grown}
use Rattle.auth_events.proofs.Numbers.{both}
use Rattle.auth_events.proofs.Same.{number_refl}
use Rattle.trace_rule.specs.Telling.{dials}
use Rattle.request_machine.specs.Linked.{AreDialsOf, IsLinkedOn, IsOnlyLink, first_line, line, of_others, way}
use Rattle.request_machine.specs.Linked.Way.{Onward}
use Rattle.std.specs.Prelude.{IsSome}
use Rattle.link_trait.specs.declared.dialer.Dial.{Dial}
use Rattle.auth_events.specs.Book.{IsLegal}
use Rattle.auth_events.specs.Told.{has_no_draw, journal}
use Rattle.request_machine.specs.Linked.{Line}
use Rattle.auth_controller.specs.Driving.{HasDriving, IsDriving, Peers, Seen, seen}
use Rattle.auth_controller.proofs.Arms.{legal_told}
use Rattle.std.specs.Prelude.{IfSome}
use Rattle.auth_text.specs.Login.{Login}
use Rattle.spaces.specs.ProtectionSpaces.{ProtectionSpace}
use Rattle.link_trait.specs.declared.dialer.Traffic.{Traffic}
use Rattle.link_trait.specs.declared.prompts.Ask.{Ask}
use Rattle.link_trait.specs.Links.{read_on}
use Rattle.trace_rule.specs.Heard.{IsHeard}
use Rattle.trace_rule.specs.Telling.{IsSent, prompted}
use Rattle.request_machine.specs.Carried.{IsRecorded, sent}
use Rattle.request_machine.specs.Prompted.{AreAnswered, IsAnsweredBy}
use Rattle.request_machine.proofs.Carrying.{first_carried}
use Rattle.request_machine.proofs.Sent.{sent_over}
use Rattle.request_machine.proofs.Giving.{first_prompted}
use Rattle.request_machine.specs.declared.stage.Stage.TheVariants.{Call as Calling, Over}
use Rattle.request_machine.specs.Kept.{IsSettingOf, IsStage, Kept, Ties}
use Rattle.auth_controller.specs.Service.{IsCarriedOut, IsPromptedOut}
use Rattle.auth_controller.specs.Serving.{IsServing, has_memory, pending_at}
use Rattle.auth_controller.specs.Texts.{AreTextsOf, AreTextsTold}
use Rattle.auth_controller.proofs.Going.{setting_known}
use Rattle.auth_controller.proofs.Texts.{first_texts}

-- a request that wasn't begun
pub unbegun_serving : (roster : Roster) (told : List Told) (words : List Drawn) (request : Request) (m : Kept) (r : ℕ) (seed : List ℕ)
    → m.number ≡ r → m.seed ≡ seed → m.past ≡ [] → m.stage ≡ Calling Begin → ((s : Setting) → IsSettingOf s roster r seed → Ties s m)
    → IsLegalPast roster (names_told told) (past told) → AreNames (names_told told) → numbered roster.requests r ≡ Some request → own (past told) r ≡ [] → has_open_prompt (past told) ≡ false
    → length words ≡ 16 * length roster.requests → AreEpochs (names_told told) (past told) words → AreFew (begun (past told)) (names_told told) → ((n : ℕ) → draws_of words n ≤ 2 ^ 29)
    → IsServing roster told told words words request m
unbegun_serving roster told words request m r seed number same_seed none stage ties legal are_names in_roster unserved closed as_many epochs few few_draws = record {
  served = subst (IsServed roster told told words words m.number request) (sym none) (subst (λ x. IsServed roster told told words words x request []) (sym number) served);
  known = λ s k. ties s (subst (λ x. IsSettingOf s roster x seed) number (subst (IsSettingOf s roster m.number) same_seed (setting_known roster told request m s (subst (λ x. numbered roster.requests x ≡ Some request) (sym number) in_roster) k)));
  few_before = few;
  few_draws = few_draws;
  few = record { spaces = omega (arith, few.spaces); terms = omega (arith, few.terms); nonces = omega (arith, few.nonces); texts = omega (arith, few.texts) };
  named = λ u.
      subst (λ x. HasNamed (names_told told) (names_told told) m.number m.past (pending_at x)) (sym stage)
      (subst (λ l. HasNamed (names_told told) (names_told told) m.number l none_pending) (sym none) named);
}
  where
    served : IsServed roster told told words words r request []
    served = record {
      grown = adds_none 1 told;
      alone = record { legal = legal; are_names = are_names; in_roster = in_roster; same_calls = refl; unserved = unserved; none_open = closed };
      as_many = as_many;
      drawn = record { as_many = refl; counts = λ n from to. omega arith; epochs = epochs; draws = tt };
    }

    named : HasNamed (names_told told) (names_told told) m.number [] none_pending
    named = record {
      met = record { spaces = met_none (length (names_told told).spaces); terms = met_none (length (names_told told).terms); in_turn = refl; texts = omega arith };
      nonces = omega arith;
    }

-- a request that is over
module _ (roster : Roster) (before told : List Told) (first words : List Drawn) (request : Request) (m : Kept) (serving : IsServing roster before told first words request m) (over : m.stage ≡ Over) where
  abbrev here : Setting
  here = setting_of roster m.seed (names_told told) (past told) m.number request

  turned : reverse (reverse m.past) ≡ m.past
  turned = reverse-reverse m.past

  trace_is : IsTrace here (reverse m.past)
  trace_is =
      subst (λ l. IsRun here l ⊎ IsCut here l) (sym turned)
      (subst (IsStage here m.past) over (serving.known here (knows_itself roster m.seed (names_told told) (past told) m.number request)).stage)

  unspent : is_spent m.past ≡ false → IsTrue (has_memory m.stage m.past)
  unspent none = subst (λ x. IsTrue (has_memory x m.past)) (sym over) (ap not none)

  -- the request was begun
  some : 1 ≤ begun (entries_of m.number m.past)
  some = by (subst (IsStage here m.past) over (serving.known here (knows_itself roster m.seed (names_told told) (past told) m.number request)).stage)
    where
      begins_in : List Event → Bool
      begins_in l = list_any (λ made. begins made.call) (calls l)

      run : IsPast here m.past → IsTrue (is_over m.past) → (m.past ≡ []) ⊎ IsTrue (begins_in m.past) → 1 ≤ begun (entries_of m.number m.past)
      run is ends (inl none) = absurd (false≢true (ap is_over (sym none) ∙ ends))
      run is ends (inr some_call) = some_begun m.number m.past some_call

      lost : (p : ℕ) (base : List Event) → (b : Bool) → (p == 0) ≡ b → IsTrue (begins_in base) → IsTrue (begins_in (with_loss p base))
      lost p base true is h = subst (λ b. IsTrue (begins_in (if b then base else Called (Lose p Memory) (Lost Memory) ∷ base))) (sym is) h
      lost p base false is h = subst (λ b. IsTrue (begins_in (if b then base else Called (Lose p Memory) (Lost Memory) ∷ base))) (sym is) h

      cut : (base : List Event) → IsCutAt here base m.past → (base ≡ []) ⊎ IsTrue (begins_in base) → 1 ≤ begun (entries_of m.number m.past)
      cut base c (inl none) = absurd (false≢true (ap may_cut (sym none) ∙ c.may_cut))
      cut base c (inr some_call) = some_begun m.number m.past (subst (λ l. IsTrue (begins_in l)) (sym c.cut) (lost (prompt_open base base) base (prompt_open base base == 0) refl some_call))

      by : IsRun here m.past ⊎ IsCut here m.past → 1 ≤ begun (entries_of m.number m.past)
      by (inl r) = run r.0 r.1 (began here m.past r.0)
      by (inr c) = cut c.0 c.1 (began here c.0 c.1.is_past)

  pub over_served : IsServedAlone roster m.seed before told first words m.number request (reverse m.past)
  over_served = record {
    is_trace = trace_is;
    served = subst (IsServed roster before told first words m.number request) (sym turned) serving.served;
    met = λ none.
        let has = serving.named (unspent (ap is_spent (sym turned) ∙ none)) in
        subst (λ l. AreNamesMet (names_told before) (names_told told) (entries_of m.number l)) (sym turned)
        (subst (λ x. HasNamed (names_told before) (names_told told) m.number m.past (pending_at x)) over has).met;
    few =
        let split : begun (past told) ≡ begun (entries_of m.number m.past) + begun (past before) =
        ap begun serving.served.alone.same_calls ∙ sum_by-append (λ (e : Entry). cond (begins e.call) 1 0) (entries_of m.number m.past) (past before) in
        let few = serving.few in
        record { spaces = omega (arith, few.spaces, split, some); terms = omega (arith, few.terms, split, some); nonces = omega (arith, few.nonces, split, some); texts = omega (arith, few.texts, split, some) };
    none_open =
        closed_at_end roster m.seed (names_told told) (past before) (past told) m.number request (reverse m.past)
        (subst (IsAlone roster (names_told told) (past before) (past told) m.number request) (sym turned) serving.served.alone) trace_is;
  }

-- WHAT THE DIALER TELLS

grown_none : {A : Type 0} (told : Option (List A)) → grown told [] ≡ told
grown_none None = refl
grown_none (Some items) = ap Some (append-nil items)

pub unbegun_driving : (roster : Roster) (peer : Peers) (start : Seen) (request : Request) (m : Kept) (r : ℕ) (seed : List ℕ)
    → line m ≡ first_line r seed → m.past ≡ [] → m.stage ≡ Calling Begin → start.opened ≡ [] → ((n : ℕ) → IsUndialed (record { request = r; nth = n }) start.dials)
    → IsServing roster start.told start.told start.words start.words request m → IsDriving roster peer start start request m
unbegun_driving roster peer start request m r seed lined none stage unlinked undialed serving = record {
  serving = serving;
  linked = subst (λ x. IsLinkedOn (way x) (line m)) (sym stage) (subst (IsLinkedOn Onward) (sym lined) (refl, refl));
  only = subst (λ l. IsOnlyLink l start.opened) (sym lined) (subst (IsOnlyLink (first_line r seed)) (sym unlinked) (record { last = tt; only = λ n. refl }));
  undialed = subst (λ l. AreDialsOf l start.dials) (sym lined) (λ n low. undialed n);
  others = refl;
  dialed = λ s k. sym (ap (λ l. grown start.dials (dials s l)) none ∙ grown_none start.dials);
  traffic = λ s k. record { more = []; grows = sym (grown_none start.traffic); carried = first_carried s peer.streams start.traffic m none };
  prompted = λ s k. first_prompted s peer.answers m start.asks none (sym (grown_none start.asks));
  texts = λ s k. none_yet s peer.answers;
}
  where
    none_yet : (s : Setting) (o : Option (ProtectionSpace → ℕ → Option Login)) → IfSome o (λ answers. AreTextsTold s answers (names_told start.told) m)
    none_yet s None = tt
    none_yet s (Some answers) = first_texts s answers (names_told start.told) m Begin none stage

-- no link is open where none of the request and none of others is
none_open : (number : ℕ) (opened : List LinkName) → of_others number opened ≡ [] → ((n : ℕ) → has_link (record { request = number; nth = n }) opened ≡ false) → opened ≡ []
none_open number [] others own = refl
none_open number (name ∷ opened) others own = at (name.request == number) refl
  where
    at : (b : Bool) → (name.request == number) ≡ b → name ∷ opened ≡ []
    at true same =
        let here : has_link (record { request = number; nth = name.nth }) (name ∷ opened) ≡ true = ap (λ b. b || has_link (record { request = number; nth = name.nth }) opened) (both (name.request == number) (name.nth == name.nth) same (number_refl name.nth)) in
        absurd (false≢true (sym (own name.nth) ∙ here))
    at false other =
        let kept : name ∷ of_others number opened ≡ [] = sym (ap (λ b. if not b then name ∷ of_others number opened else of_others number opened) other) ∙ others in
        let clash : name ∷ of_others number opened ≡ [] = kept in cc

-- a past is its trace turned back
pub past_of_trace : (past trace : List Event) → trace ≡ reverse past → past ≡ reverse trace
past_of_trace past trace events = sym (ap reverse events ∙ reverse-reverse past)

-- a request that is over
module _ (roster : Roster) (peer : Peers) (start now : Seen) (found : Request) (m : Kept) (r : ℕ) (seed : List ℕ) (number : m.number ≡ r) (same_seed : m.seed ≡ seed)
    (has : HasDriving roster peer start now m) (over : m.stage ≡ Over) (closed : m.link ≡ None) (trace : List Event) (events : trace ≡ reverse m.past) where
  same_request : numbered roster.requests r ≡ Some found → has.request ≡ found
  same_request is =
      let here : Some has.request ≡ Some found = sym (subst (λ x. numbered roster.requests x ≡ Some has.request) number has.driving.serving.served.alone.in_roster) ∙ is in
      cc

  -- what holds of the machine's own request and past holds of the trace
  of_trace : (P : List ℕ → ℕ → Request → List Event → Type 0) → numbered roster.requests r ≡ Some found → P m.seed m.number has.request (reverse m.past) → P seed r found trace
  of_trace P is p =
      subst (P seed r found) (sym events)
      (subst (λ q. P seed r q (reverse m.past)) (same_request is)
      (subst (λ x. P seed x has.request (reverse m.past)) number
      (subst (λ x. P x m.number has.request (reverse m.past)) same_seed p)))

  abbrev its_setting : Setting
  its_setting = setting_of roster m.seed (names_told now.told) (past now.told) m.number has.request

  knows_it : KnowsBook roster m.seed (names_told now.told) (past now.told) m.number has.request its_setting
  knows_it = knows_itself roster m.seed (names_told now.told) (past now.told) m.number has.request

  turned_past : m.past ≡ reverse (reverse m.past)
  turned_past = sym (reverse-reverse m.past)

  pub driven_served : numbered roster.requests r ≡ Some found → IsServedAlone roster seed start.told now.told start.words now.words r found trace
  driven_served is =
      of_trace (λ x n q l. IsServedAlone roster x start.told now.told start.words now.words n q l) is
      (over_served roster start.told now.told start.words now.words has.request m has.driving.serving over)

  pub driven_carried : numbered roster.requests r ≡ Some found
      → IsCarriedOut (setting_of roster seed (names_told now.told) (past now.told) r found) peer.streams start.dials now.dials start.traffic now.traffic trace
  driven_carried is =
      of_trace (λ x n q l. IsCarriedOut (setting_of roster x (names_told now.told) (past now.told) n q) peer.streams start.dials now.dials start.traffic now.traffic l) is
      (let it = has.driving.traffic its_setting knows_it in
      record {
        dialed = has.driving.dialed its_setting knows_it ∙ ap (λ l. grown start.dials (dials its_setting l)) turned_past;
        more = it.more;
        grows = it.grows;
        sent = subst (λ l. IsSent its_setting l (sent it.more)) turned_past (sent_over its_setting m (sent it.more) over (has.driving.serving.known its_setting knows_it) it.carried.sent);
        heard = subst (λ l. IsHeard (λ name. read_on name it.more) its_setting.request.method its_setting.number l) turned_past it.carried.heard;
        recorded = λ silent. subst (IsRecorded peer.streams its_setting.request.method its_setting.number) turned_past (it.carried.recorded silent);
      })

  pub driven_prompted : numbered roster.requests r ≡ Some found → IsPromptedOut (setting_of roster seed (names_told now.told) (past now.told) r found) peer.answers (names_told now.told) start.asks now.asks trace
  driven_prompted is =
      of_trace (λ x n q l. IsPromptedOut (setting_of roster x (names_told now.told) (past now.told) n q) peer.answers (names_told now.told) start.asks now.asks l) is
      (let it = has.driving.prompted its_setting knows_it in
      record {
        told = it.told ∙ ap (λ l. grown start.asks (prompted its_setting l)) turned_past;
        answered = answered_all peer.answers it.answered;
        texts = texts_all peer.answers (has.driving.texts its_setting knows_it);
      })
    where
      answered_all : (o : Option (ProtectionSpace → ℕ → Option Login)) → IfSome o (λ answer. IsAnsweredBy its_setting answer m) → IfSome o (λ answer. AreAnswered its_setting answer (reverse (reverse m.past)))
      answered_all None by = tt
      answered_all (Some answer) by = subst (AreAnswered its_setting answer) turned_past by.seen

      texts_all : (o : Option (ProtectionSpace → ℕ → Option Login)) → IfSome o (λ answer. AreTextsTold its_setting answer (names_told now.told) m) → IfSome o (λ answer. AreTextsOf its_setting answer (names_told now.told) (reverse (reverse m.past)))
      texts_all None by = tt
      texts_all (Some answer) by = subst (AreTextsOf its_setting answer (names_told now.told)) turned_past by.made

  pub driven_closed : start.opened ≡ [] → now.opened ≡ []
  driven_closed unlinked =
      none_open m.number now.opened (has.driving.others ∙ ap (of_others m.number) unlinked)
      (λ n. has.driving.only.only n ∙ ap (λ o. unwrap_or (option_map (λ (name : LinkName). name.nth == n) o) false) closed)

some_request : (o : Option Request) → IsSome o → (found : Request) × (o ≡ Some found)
some_request None there = absurd (false≢true there)
some_request (Some found) there = (found, refl)

-- a machine that hasn't begun is driven
pub first_driving : (roster book : Roster) (names : Tables) (told : List Told) (words : List Drawn) (peer : Peers) (dialed : Option (List Dial)) (opened : List LinkName) (traffic : Option (List Traffic)) (asks : Option (List Ask)) (m : Kept) (r : ℕ) (seed : List ℕ)
    → roster ≡ book → names_told told ≡ names → IsTrue (has_no_draw told) → IsLegal book names (journal told) → AreNames names
    → IsSome (numbered roster.requests r) → own (past told) r ≡ [] → has_open_prompt (past told) ≡ false → AreFew (begun (past told)) names
    → length words ≡ 16 * length roster.requests → ((n : ℕ) → draws_of words n ≤ 2 ^ 29) → AreEpochs names (past told) words
    → opened ≡ [] → ((n : ℕ) → IsUndialed (record { request = r; nth = n }) dialed)
    → m.stage ≡ Calling Begin → m.past ≡ [] → line m ≡ first_line r seed → ((s : Setting) → IsSettingOf s roster r seed → Ties s m)
    → HasDriving roster peer (seen told words dialed opened traffic asks) (seen told words dialed opened traffic asks) m
first_driving roster book names told words peer dialed opened traffic asks m r seed same_roster same none legal are there unserved closed few as_many few_draws epochs unlinked undialed stage empty lined ties =
    let found = some_request (numbered roster.requests r) there in
    record {
      request = found.0;
      driving =
          unbegun_driving roster peer (seen told words dialed opened traffic asks) found.0 m r seed lined empty stage unlinked undialed
          (unbegun_serving roster told words found.0 m r seed (ap (λ (l : Line). l.number) lined) (ap (λ (l : Line). l.seed) lined) empty stage ties
          (legal_told roster book names told (sym same_roster) same none legal) (subst AreNames (sym same) are) found.1 unserved closed as_many
          (subst (λ (t : Tables). AreEpochs t (past told) words) (sym same) epochs) (subst (AreFew (begun (past told))) (sym same) few) few_draws);
    }
