-- A machine that is given the numbers of terms or of a text is served on.
use Rattle.std.proofs.Common.{◌≡◌, ℕ, ◌+◌, ◌*◌, ◌<◌, ◌==◌, Bool, true, false, not, IsTrue, List, [], ◌∷◌, ◌++◌, length, Option, Some, None, is_some, option_map, refl, sym, ap, ◌∙◌, subst, arith, if◌then◌else◌}
use Rattle.std.specs.Prelude.{All, IfOk, IfSome, OnErr, OnOk, Result, Ok, Err}
use Rattle.std.proofs.lemmas.Bool.{false≢true}
use Rattle.auth_text.specs.Login.{Login}
use Rattle.auth_text.specs.declared.items.NoMemory.{NoMemory}
use Rattle.spaces.specs.declared.roster.Request.{Request}
use Rattle.spaces.specs.declared.roster.Roster.{Roster}
use Rattle.spaces.specs.declared.terms.Terms.{Terms}
use Rattle.spaces.specs.Sites.{numbered}
use Rattle.auth_events.specs.declared.controller.TermsRef.{TermsRef}
use Rattle.auth_events.specs.declared.journal.Drawn.{Drawn}
use Rattle.auth_events.specs.declared.told.Told.{Told}
use Rattle.auth_events.specs.declared.told.Told.TheVariants.{TermsNamed, TextNamed}
use Rattle.auth_events.specs.Book.{IsLegalPast}
use Rattle.auth_events.proofs.Numbers.{numbered-last}
use Rattle.auth_events.specs.Pages.{IsPage}
use Rattle.auth_events.specs.Tables.{AreFew, AreNames, Tables, is_home, nonce_for, terms_number, with_new_terms, with_text}
use Rattle.auth_events.specs.Told.{MayNameTerms, journal, names_told, past, told_terms}
use Rattle.auth_runs.specs.declared.event.Event.{Event}
use Rattle.run_rule.specs.Naming.{unless_zero}
use Rattle.trace_laws.specs.Lengths.{terms_given}
use Rattle.trace_rule.specs.Settings.{Setting, setting_of}
use Rattle.trace_rule.specs.Traces.{IsPast}
use Rattle.serving_laws.specs.Meeting.{Pending, none_pending}
use Rattle.serving_laws.specs.Rooms.{HasNamed, begun}
use Rattle.serving_laws.proofs.Named.{may_terms, named_few, terms_told as names_of_terms, text_told as names_of_text, with_terms_has, with_text_has}
use Rattle.request_machine.specs.declared.gave.Gave.TheVariants.{NoMemory as NoneGiven, Number, Ref}
use Rattle.request_machine.specs.declared.need.Need.TheVariants.{TermsNo, TextNo}
use Rattle.request_machine.specs.declared.stage.Prompt.{Prompt}
use Rattle.request_machine.specs.declared.stage.Stage.{Stage}
use Rattle.request_machine.specs.declared.stage.Stage.TheVariants.{NameLast, NameRenewal, NameTerms, NameText, Spent}
use Rattle.request_machine.specs.Gives.{AreTermsNamed, IsTold}
use Rattle.request_machine.specs.Kept.{Kept}
use Rattle.request_machine.specs.Needs.{need_at}
use Rattle.request_machine.specs.Work.{is_answer, stage_told}
use Rattle.auth_controller.specs.Answering.{HasServingBy, IsGiven, IsGivenAs, IsServedOnBy, number_given, numbers_given}
use Rattle.auth_controller.specs.Serving.{IsServing, has_memory, pending_at}
use Rattle.auth_controller.specs.Texts.{IsTextGiven}
use Rattle.auth_controller.proofs.Asking.{now}
use Rattle.auth_controller.proofs.Names.{left, may_name_text, terms_have, terms_home}
use Rattle.auth_controller.proofs.NeedStages.{IsTermsStage, terms_need, text_need}
use Rattle.auth_controller.proofs.NeedStages.IsTermsStage.{chosen, last, stale}
use Rattle.auth_controller.proofs.Reading.{told_given}
use Rattle.auth_controller.proofs.Texts.{no_text}
use Rattle.auth_controller.proofs.TermsLeft.{chosen_terms_left, last_at_home, stale_at_home}
use Rattle.auth_controller.proofs.Naming.{entries_short, given_few, name_adds, name_on, none_on, nonzero}
use Rattle.std.proofs.Common.{option_and_then}
use Rattle.std.proofs.lemmas.Bool.{eqb-true}
use Rattle.trace_rule.specs.Challenges.{challenged}
use Rattle.trace_rule.specs.Holding.{last_reply}
use Rattle.trace_rule.specs.Moves.{Move, move}
use Rattle.trace_rule.specs.Moves.Move.{Closes, Goes}

-- TERMS

-- the stage asks for terms of that space to be named
pub record IsNamingTerms (m : Kept) (space : ℕ) (terms : Terms) (x : Stage) : Type 0 where
  pub is : m.stage ≡ x
  pub pending : Pending
  pub waits : pending_at x ≡ pending
  pub no_terms : pending.terms ≡ None
  pub memory : IsTrue (has_memory x m.past)
  pub answers : (numbers : TermsRef) → IsTrue (not (numbers.terms == 0)) → IsTrue (is_answer x (Ref numbers))
  pub none_answers : IsTrue (is_answer x NoneGiven)
  pub waits_then : (numbers : TermsRef) → pending_at (stage_told m x (Ref numbers)) ≡ record pending { terms = unless_zero numbers.terms }
  pub spent : stage_told m x NoneGiven ≡ Spent
  pub tells : (s : Setting) (numbers : TermsRef) → s.terms_no space terms ≡ Some numbers.terms → IsTold s m x (Ref numbers)
  pub tells_none : (s : Setting) → IsTold s m x NoneGiven

told_terms_so : (s : Setting) (m : Kept) (space n : ℕ) (terms : Terms) → m.unnamed_terms ≡ Some terms → s.terms_no space terms ≡ Some n → AreTermsNamed s m space n
told_terms_so s m space n terms unnamed is = subst (λ o. IfSome o (λ x. s.terms_no space x ≡ Some n)) (sym unnamed) is

pub naming_terms : (m : Kept) (space : ℕ) (terms : Terms) → IsTermsStage m space m.stage → m.unnamed_terms ≡ Some terms → (x : Stage) × IsNamingTerms m space terms x
naming_terms m space terms (chosen t is) unnamed = (
  NameTerms t space,
  record {
    is = is;
    pending = record { space = Some space; terms = None; text = None };
    waits = refl;
    no_terms = refl;
    memory = refl;
    answers = λ numbers not_zero. not_zero;
    none_answers = refl;
    waits_then = λ numbers. refl;
    spent = refl;
    tells = λ s numbers e. told_terms_so s m space numbers.terms terms unnamed e;
    tells_none = λ s. tt;
  },
)
naming_terms m space terms (stale t gift is same) unnamed = (
  NameRenewal t gift,
  record {
    is = is;
    pending = none_pending;
    waits = refl;
    no_terms = refl;
    memory = refl;
    answers = λ numbers not_zero. not_zero;
    none_answers = refl;
    waits_then = λ numbers. refl;
    spent = refl;
    tells = λ s numbers e. told_terms_so s m gift.space numbers.terms terms unnamed (subst (λ x. s.terms_no x terms ≡ Some numbers.terms) (sym same) e);
    tells_none = λ s. tt;
  },
)
naming_terms m space terms (last t gift c is same) unnamed = (
  NameLast t gift c,
  record {
    is = is;
    pending = none_pending;
    waits = refl;
    no_terms = refl;
    memory = refl;
    answers = λ numbers not_zero. not_zero;
    none_answers = refl;
    waits_then = λ numbers. refl;
    spent = refl;
    tells = λ s numbers e. told_terms_so s m gift.space numbers.terms terms unnamed (subst (λ x. s.terms_no x terms ≡ Some numbers.terms) (sym same) e);
    tells_none = λ s. tt;
  },
)

-- there was an event, and the terms are at home with a nonce left
module _ (roster : Roster) (before told : List Told) (first words : List Drawn) (request : Request) (m : Kept) (serving : IsServing roster before told first words request m) (space : ℕ) (terms : Terms)
    (unnamed : m.unnamed_terms ≡ Some terms) where
  abbrev then_here : Setting
  then_here = setting_of roster m.seed (names_told told) (past told) m.number request

  pub home_and_left : IsTermsStage m space m.stage → IsTrue (is_home (names_told told) space terms) × (terms_given m.past < 16)
  home_and_left (chosen t is) = (terms_home roster before told first words request m serving t space is terms unnamed, chosen_terms_left roster before told first words request m serving space terms t is unnamed)
  home_and_left (stale t gift is same) = stale_at_home roster before told first words request m serving space terms t gift is same unnamed
  home_and_left (last t gift c is same) = last_at_home roster before told first words request m serving space terms t gift c is same unnamed

  pub ran : IsTermsStage m space m.stage → IsPast then_here m.past
  ran (chosen t is) = (now roster before told first words request m serving (NameTerms t space) is).0
  ran (stale t gift is same) = (now roster before told first words request m serving (NameRenewal t gift) is).0
  ran (last t gift c is same) = (now roster before told first words request m serving (NameLast t gift c) is).0.is_past

  abbrev goes : Move → Bool
  goes (Goes w) = true
  goes (Closes o) = false

  begun_some : IsTermsStage m space m.stage → m.past ≡ [] → ⊥
  begun_some (chosen t is) none = let at = (now roster before told first words request m serving (NameTerms t space) is).2 in (let clash : None ≡ Some t = sym (ap (λ x. option_and_then (challenged then_here) (last_reply x)) none) ∙ at in cc)
  begun_some (stale t gift is same) none = let at = (now roster before told first words request m serving (NameRenewal t gift) is).2 in (let clash : None ≡ Some t = sym (ap (λ x. option_and_then (challenged then_here) (last_reply x)) none) ∙ at in cc)
  begun_some (last t gift c is same) none =
      let at = (now roster before told first words request m serving (NameLast t gift c) is).0.closes in
      false≢true (sym (ap goes at) ∙ ap (λ x. goes (move then_here x)) none)

  room_left : IsTermsStage m space m.stage → begun (past before) < length roster.requests
  room_left stage = at m.past refl
    where
      at : (events : List Event) → m.past ≡ events → begun (past before) < length roster.requests
      at [] e = absurd (begun_some stage e)
      at (event ∷ earlier) e = left roster before told first words request m serving event earlier e (ran stage)

  pub terms_may : IsTermsStage m space m.stage → MayNameTerms roster (names_told told) space terms
  terms_may stage =
      let v = naming_terms m space terms stage unnamed in
      let has = subst (HasNamed (names_told before) (names_told told) m.number m.past) (ap pending_at v.1.is ∙ v.1.waits) (serving.named (subst (λ x. IsTrue (has_memory x m.past)) (sym v.1.is) v.1.memory)) in
      may_terms (names_told before) (names_told told) m.number m.past v.1.pending has roster (begun (past before)) serving.few_before (room_left stage)
      (entries_short roster before told first words request m serving (ran stage)) space terms v.1.no_terms (home_and_left stage).1

module _ (roster : Roster) (told : List Told) (m : Kept) (has : HasServingBy roster told m) (space : ℕ) (terms : Terms) (need : need_at m m.stage ≡ Some (TermsNo space terms)) where
  abbrev at_terms : IsTermsStage m space m.stage × (m.unnamed_terms ≡ Some terms)
  at_terms = terms_need m m.stage space terms need

  pub need_home : IsTrue (is_home (names_told told) space terms)
  need_home = (home_and_left roster has.has.before told has.has.first has.words has.has.request m has.has.serving space terms at_terms.1 at_terms.0).0

  pub need_may : MayNameTerms roster (names_told told) space terms
  need_may = terms_may roster has.has.before told has.has.first has.words has.has.request m has.has.serving space terms at_terms.1 at_terms.0

  module _ (more : List Told) (n : Kept) (requests : ℕ) (pages : All (IsPage requests) (journal told)) (legal : IsLegalPast roster (names_told more) (past more)) (are_names : AreNames (names_told more)) where
    abbrev IsNumbered : TermsRef → Type 0
    IsNumbered numbers = numbered (names_told more).terms numbers.terms ≡ Some (record { space = space; terms = terms; nonce = numbers.nonce })

    module _ (x : Stage) (v : IsNamingTerms m space terms x) where
      terms_ok : (numbers : TermsRef) → IsNumbered numbers → more ≡ told_terms 1 (names_told told) told space terms → IsGivenAs (Ref numbers) m n → IsGiven roster told more m n × IsServedOnBy roster told more m n
      terms_ok numbers is grew given = (
        told_given roster told m n (TermsNo space terms) need (Ref numbers) given answers more (no_text (names_told more) m m.stage (Ref numbers) refl)
            (λ words before first request serving s k. subst (λ y. IsTold s m y (Ref numbers)) (sym v.is) (v.tells s numbers (k.knows.terms_no space terms numbers.terms (terms_have (names_told more) are_names space terms numbers.terms numbers.nonce is)))),
        λ words. record {
          adds = name_adds roster told more m n item (is_some (terms_number (names_told told) space terms)) grew refl refl requests pages legal are_names;
          on = λ before first request serving.
              name_on roster told more m n item (is_some (terms_number (names_told told) space terms)) grew refl refl requests pages legal are_names
              (Ref numbers) given given.past before first words request serving
              (λ s k. subst (λ y. IsTold s m y (Ref numbers)) (sym v.is) (v.tells s numbers (k.knows.terms_no space terms numbers.terms (terms_have (names_told more) are_names space terms numbers.terms numbers.nonce is))))
              (few before first words request serving) (λ u. named before first words request serving);
        },
      )
        where
          item : Told
          item = TermsNamed 1 (record { space = space; terms = terms; nonce = nonce_for (names_told told) space terms })

          not_zero : IsTrue (not (numbers.terms == 0))
          not_zero = nonzero (names_told more).terms numbers.terms (record { space = space; terms = terms; nonce = numbers.nonce }) is

          answers : IsTrue (is_answer m.stage (Ref numbers))
          answers = subst (λ y. IsTrue (is_answer y (Ref numbers))) (sym v.is) (v.answers numbers not_zero)

          names_are : names_told more ≡ with_new_terms (names_told told) space terms
          names_are = ap names_told grew ∙ names_of_terms told space terms

          has_it : (before : List Told) (first words : List Drawn) (request : Request) → IsServing roster before told first words request m → HasNamed (names_told before) (names_told more) m.number m.past (record v.pending { terms = Some numbers.terms })
          has_it before first words request serving =
              subst (λ t. HasNamed (names_told before) t m.number m.past (record v.pending { terms = Some numbers.terms })) (sym names_are)
              (with_terms_has (names_told before) (names_told told) m.number m.past v.pending
              (subst (HasNamed (names_told before) (names_told told) m.number m.past) (ap pending_at v.is ∙ v.waits) (serving.named (subst (λ y. IsTrue (has_memory y m.past)) (sym v.is) v.memory)))
              space terms numbers.terms numbers.nonce v.no_terms (home_and_left roster before told first words request m serving space terms at_terms.1 at_terms.0).0
              (subst (λ (t : Tables). numbered t.terms numbers.terms ≡ Some (record { space = space; terms = terms; nonce = numbers.nonce })) names_are is))

          some_terms : unless_zero numbers.terms ≡ Some numbers.terms
          some_terms = at (numbers.terms == 0) refl
            where
              at : (b : Bool) → (numbers.terms == 0) ≡ b → (if b then None else Some numbers.terms) ≡ Some numbers.terms
              at true zero_is = absurd (false≢true (sym (ap not zero_is) ∙ not_zero))
              at false zero_is = refl

          named : (before : List Told) (first words : List Drawn) (request : Request) → IsServing roster before told first words request m
              → HasNamed (names_told before) (names_told more) m.number m.past (pending_at n.stage)
          named before first words request serving =
              subst (HasNamed (names_told before) (names_told more) m.number m.past)
              (sym (ap pending_at (given.stage answers ∙ ap (λ y. stage_told m y (Ref numbers)) v.is) ∙ (v.waits_then numbers ∙ ap (λ o. record v.pending { terms = o }) some_terms)))
              (has_it before first words request serving)

          few : (before : List Told) (first words : List Drawn) (request : Request) → IsServing roster before told first words request m → AreFew (begun (past before) + 1) (names_told more)
          few before first words request serving =
              let most = (home_and_left roster before told first words request m serving space terms at_terms.1 at_terms.0).1 in
              named_few (names_told before) (names_told more) m.number m.past (record v.pending { terms = Some numbers.terms }) (has_it before first words request serving)
              (begun (past before)) serving.few_before (entries_short roster before told first words request m serving (ran roster before told first words request m serving space terms at_terms.1 at_terms.0)) (omega (arith, most))

      terms_none : more ≡ told → IsGivenAs NoneGiven m n → IsGiven roster told more m n × IsServedOnBy roster told more m n
      terms_none same given =
          let answers : IsTrue (is_answer m.stage NoneGiven) = subst (λ y. IsTrue (is_answer y NoneGiven)) (sym v.is) v.none_answers in (
            told_given roster told m n (TermsNo space terms) need NoneGiven given answers more (no_text (names_told more) m m.stage NoneGiven refl)
                (λ words before first request serving s k. subst (λ y. IsTold s m y NoneGiven) (sym v.is) (v.tells_none s)),
            subst (λ l. IsServedOnBy roster told l m n) (sym same)
                (none_on roster told m n (TermsNo space terms) need given answers (subst (λ y. stage_told m y NoneGiven ≡ Spent) (sym v.is) v.spent) (λ s. subst (λ y. IsTold s m y NoneGiven) (sym v.is) (v.tells_none s))),
          )

    pub terms_named : (result : Result TermsRef NoMemory) → IfOk result IsNumbered → OnOk result (more ≡ told_terms 1 (names_told told) told space terms) → OnErr result (more ≡ told)
        → IsGivenAs (numbers_given result) m n → IsGiven roster told more m n × IsServedOnBy roster told more m n
    terms_named (Ok numbers) is grew same given = let v = naming_terms m space terms at_terms.0 at_terms.1 in terms_ok v.0 v.1 numbers is grew given
    terms_named (Err free) is grew same given = let v = naming_terms m space terms at_terms.0 at_terms.1 in terms_none v.0 v.1 same given

-- A TEXT

module _ (roster : Roster) (told : List Told) (m : Kept) (has : HasServingBy roster told m) (identity : Login) (need : need_at m m.stage ≡ Some (TextNo identity)) where
  abbrev at_text : (p : Prompt) × (m.stage ≡ NameText p)
  at_text = text_need m m.stage identity need

  pub text_may : length (names_told told).texts < 64 * length roster.requests
  text_may = may_name_text roster has.has.before told has.has.first has.words has.has.request m has.has.serving at_text.0 at_text.1

  module _ (more : List Told) (n : Kept) (requests : ℕ) (pages : All (IsPage requests) (journal told)) (legal : IsLegalPast roster (names_told more) (past more)) (are_names : AreNames (names_told more)) where
    text_ok : (number : ℕ) → number ≡ length (names_told told).texts + 1 → more ≡ told ++ TextNamed 1 identity ∷ [] → IsGivenAs (Number number) m n → IsGiven roster told more m n × IsServedOnBy roster told more m n
    text_ok number is grew given = (
      told_given roster told m n (TextNo identity) need (Number number) given answers more (subst (λ x. IsTextGiven (names_told more) m x (Number number)) (sym at_text.1) text_so)
          (λ words before first request serving s k. subst (λ x. IsTold s m x (Number number)) (sym at_text.1) tt),
      λ words. record {
        adds = name_adds roster told more m n (TextNamed 1 identity) false grew refl refl requests pages legal are_names;
        on = λ before first request serving.
            name_on roster told more m n (TextNamed 1 identity) false grew refl refl requests pages legal are_names
            (Number number) given given.past before first words request serving
            (λ s k. subst (λ x. IsTold s m x (Number number)) (sym at_text.1) tt)
            (few before first words request serving) (λ u. named before first words request serving);
      },
    )
      where
        some_text : (b : Bool) → (number == 0) ≡ b → b ≡ false
        some_text true zero_is = absurd (let zero : number ≡ 0 = eqb-true number 0 zero_is in omega (arith, zero, is))
        some_text false zero_is = refl

        not_zero : (number == 0) ≡ false
        not_zero = some_text (number == 0) refl

        answers : IsTrue (is_answer m.stage (Number number))
        answers = subst (λ x. IsTrue (is_answer x (Number number))) (sym at_text.1) (ap not not_zero)

        names_are : names_told more ≡ with_text (names_told told) identity
        names_are = ap names_told grew ∙ names_of_text told identity

        -- the number is that of the identity that was given
        text_so : numbered (names_told more).texts number ≡ m.given
        text_so =
            ap (λ (t : Tables). numbered t.texts number) names_are
            ∙ (ap (numbered ((names_told told).texts ++ identity ∷ [])) is
            ∙ (numbered-last (names_told told).texts identity ∙ sym (the_given m.given (subst (λ x. need_at m x ≡ Some (TextNo identity)) at_text.1 need))))
          where
            the_given : (o : Option Login) → option_map TextNo o ≡ Some (TextNo identity) → o ≡ Some identity
            the_given None e = absurd (false≢true (ap is_some e))
            the_given (Some login) e = cc

        has_it : (before : List Told) (first words : List Drawn) (request : Request) → IsServing roster before told first words request m
            → HasNamed (names_told before) (names_told more) m.number m.past (record { space = None; terms = None; text = Some number })
        has_it before first words request serving =
            subst (λ t. HasNamed (names_told before) t m.number m.past (record { space = None; terms = None; text = Some number })) (sym names_are)
            (subst (λ k. HasNamed (names_told before) (with_text (names_told told) identity) m.number m.past (record { space = None; terms = None; text = Some k })) (sym is)
            (with_text_has (names_told before) (names_told told) m.number m.past none_pending
            (subst (λ x. HasNamed (names_told before) (names_told told) m.number m.past (pending_at x)) at_text.1 (serving.named (subst (λ x. IsTrue (has_memory x m.past)) (sym at_text.1) refl)))
            identity refl))

        named : (before : List Told) (first words : List Drawn) (request : Request) → IsServing roster before told first words request m
            → HasNamed (names_told before) (names_told more) m.number m.past (pending_at n.stage)
        named before first words request serving =
            subst (HasNamed (names_told before) (names_told more) m.number m.past)
            (sym (ap pending_at (given.stage answers ∙ ap (λ x. stage_told m x (Number number)) at_text.1) ∙ ap (λ b. record { space = None; terms = None; text = (if b then None else Some number) }) not_zero)) (has_it before first words request serving)

        few : (before : List Told) (first words : List Drawn) (request : Request) → IsServing roster before told first words request m → AreFew (begun (past before) + 1) (names_told more)
        few before first words request serving =
            let run = (now roster before told first words request m serving (NameText at_text.0) at_text.1).0 in
            let most = given_few roster before told first words request m serving run in
            named_few (names_told before) (names_told more) m.number m.past (record { space = None; terms = None; text = Some number }) (has_it before first words request serving)
            (begun (past before)) serving.few_before (entries_short roster before told first words request m serving run) (omega (arith, most))

    pub text_named : (result : Result ℕ NoMemory) → IfOk result (λ number. number ≡ length (names_told told).texts + 1) → OnOk result (more ≡ told ++ TextNamed 1 identity ∷ []) → OnErr result (more ≡ told)
        → IsGivenAs (number_given result) m n → IsGiven roster told more m n × IsServedOnBy roster told more m n
    text_named (Ok number) is grew same given = text_ok number is grew given
    text_named (Err free) is grew same given =
        let answers : IsTrue (is_answer m.stage NoneGiven) = subst (λ x. IsTrue (is_answer x NoneGiven)) (sym at_text.1) refl in (
          told_given roster told m n (TextNo identity) need NoneGiven given answers more (no_text (names_told more) m m.stage NoneGiven refl)
              (λ words before first request serving s k. subst (λ x. IsTold s m x NoneGiven) (sym at_text.1) tt),
          subst (λ l. IsServedOnBy roster told l m n) (sym same)
              (none_on roster told m n (TextNo identity) need given answers (subst (λ x. stage_told m x NoneGiven ≡ Spent) (sym at_text.1) refl) (λ s. subst (λ x. IsTold s m x NoneGiven) (sym at_text.1) tt)),
        )
