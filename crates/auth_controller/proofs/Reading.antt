-- A machine that is told what the book has of what it asked is served on.
use Rattle.std.proofs.Common.{◌≡◌, ℕ, inl, false, IsTrue, List, Some, is_some, option_map, refl, sym, ap, ◌∙◌, subst}
use Rattle.std.specs.Prelude.{IfOk, IfSome, Result, Ok, Err}
use Rattle.auth_text.specs.Login.{Login}
use Rattle.auth_text.specs.declared.items.NoMemory.{NoMemory}
use Rattle.spaces.specs.declared.roster.Request.{Request}
use Rattle.spaces.specs.declared.roster.Roster.{Roster}
use Rattle.spaces.specs.declared.site.Target.{Target}
use Rattle.spaces.specs.declared.terms.Terms.{Terms}
use Rattle.spaces.specs.declared.space.Scheme.TheVariants.{Digest}
use Rattle.spaces.specs.ProtectionSpaces.{ProtectionSpace}
use Rattle.spaces.specs.Sites.{numbered, same_target}
use Rattle.auth_events.specs.declared.journal.Drawn.{Drawn}
use Rattle.auth_events.specs.declared.journal.Gift.{Gift}
use Rattle.auth_events.specs.declared.names.TermsName.{TermsName}
use Rattle.auth_events.specs.declared.told.Told.{Told}
use Rattle.auth_events.specs.Identities.{giving, identity}
use Rattle.auth_events.specs.Tables.{Tables}
use Rattle.auth_events.specs.Told.{names_told, past}
use Rattle.auth_events.proofs.Numbers.{some_of_test}
use Rattle.spaces.specs.declared.site.Target.TheVariants.{Proxy, Server, Socks}
use Rattle.book_laws.proofs.Sharing.{adds_none}
use Rattle.trace_rule.specs.Settings.{Setting, setting_of}
use Rattle.serving_laws.specs.Knowing.{KnowsBook}
use Rattle.serving_laws.specs.Meeting.{none_pending}
use Rattle.serving_laws.specs.Rooms.{HasNamed}
use Rattle.request_machine.specs.declared.gave.Gave.{Gave}
use Rattle.request_machine.specs.declared.holding.Holding.{Holding}
use Rattle.request_machine.specs.declared.need.Need.{Need}
use Rattle.request_machine.specs.declared.need.Need.TheVariants.{SpaceOf, IdentityOf, TermsOf}
use Rattle.request_machine.specs.declared.stage.Piece.TheVariants.{Space as OfSpace, Identity as OfIdentity, Terms as OfTerms}
use Rattle.request_machine.specs.declared.stage.Prompt.{Prompt}
use Rattle.request_machine.specs.declared.stage.Stage.{Stage}
use Rattle.request_machine.specs.declared.stage.Stage.TheVariants.{Ask, Learn}
use Rattle.request_machine.specs.Changed.{holding}
use Rattle.request_machine.specs.Gives.{IsTold, past_given}
use Rattle.request_machine.specs.Kept.{IsKept, Kept}
use Rattle.request_machine.specs.Needs.{need_at}
use Rattle.request_machine.specs.Told.{IsLack, scheme_told}
use Rattle.request_machine.specs.Work.{is_answer, stage_told}
use Rattle.auth_controller.specs.Answering.{HasServingBy, IsGiven, IsGivenAs, IsSo, IsServedOnBy, identity_given, space_given, terms_given}
use Rattle.auth_controller.specs.Serving.{IsServing, has_memory, pending_at}
use Rattle.auth_controller.specs.Texts.{IsTextGiven}
use Rattle.auth_controller.proofs.Answered.{asks_some, ties_here}
use Rattle.auth_controller.proofs.Asking.{now}
use Rattle.auth_controller.proofs.Going.{told_serving}
use Rattle.auth_controller.proofs.NeedStages.{IsSpaceStage, identity_need, space_of_need, terms_of_need}
use Rattle.auth_controller.proofs.NeedStages.IsSpaceStage.{asking, held}
use Rattle.auth_controller.proofs.Readable.{identity_told, reads, space_told, terms_named, terms_told}
use Rattle.auth_controller.proofs.Texts.{is_number, no_text}

same_itself : (t : Target) → IsTrue (same_target t t)
same_itself Server = refl
same_itself Proxy = refl
same_itself Socks = refl

-- ANSWERS THAT ARE NO EVENTS, AND NAME NOTHING

module _ (roster : Roster) (told : List Told) (m n : Kept) (need : Need) (asks : need_at m m.stage ≡ Some need) (gave : Gave) (given : IsGivenAs gave m n) (answers : IsTrue (is_answer m.stage gave)) where
  pub told_given : (more : List Told) → IsTextGiven (names_told more) m m.stage gave → IsSo roster told more m gave → IsGiven roster told more m n
  told_given more text so = record { gave = gave; as_it = given; so = so; text = text; heard = inl answers; left = given.left (asks_some m need asks) answers }

  module _ (same : n.past ≡ m.past) (memory : IsTrue (has_memory m.stage m.past)) (waits : pending_at m.stage ≡ none_pending)
      (free : IsTrue (has_memory n.stage n.past) → pending_at n.stage ≡ none_pending)
      (tells : (words : List Drawn) (before : List Told) (first : List Drawn) (request : Request) → IsServing roster before told first words request m
      → (s : Setting) → KnowsBook roster m.seed (names_told told) (past told) m.number request s → IsTold s m m.stage gave) where
    pub told_on : IsServedOnBy roster told told m n
    told_on words = record {
      adds = adds_none 1 told;
      on = λ before first request serving.
          told_serving roster before told first words request m n serving (record { number = given.number; seed = given.seed }) same
          (λ s k t. given.ties s (tells words before first request serving s k) t)
          (λ u. subst (λ x. HasNamed (names_told before) (names_told told) m.number m.past x) (waits ∙ sym (free u)) (serving.named memory));
    }

-- THE SPACE

module _ (roster : Roster) (told : List Told) (m : Kept) (has : HasServingBy roster told m) (space : ℕ) (need : need_at m m.stage ≡ Some (SpaceOf space)) where
  abbrev names : Tables
  names = names_told told

  pub space_there : IsTrue (is_some (numbered names.spaces space))
  space_there = by (space_of_need m m.stage space need)
    where
      there : (k : ℕ) → k ≡ space → IsTrue (is_some (numbered names.spaces k)) → IsTrue (is_some (numbered names.spaces space))
      there k same is = subst (λ x. IsTrue (is_some (numbered names.spaces x))) same is

      by : IsSpaceStage m space m.stage → IsTrue (is_some (numbered names.spaces space))
      by (held t h is holds same) = there h.gift.space same (reads roster has.has.before told has.has.first has.words has.has.request m has.has.serving t OfSpace h is holds).is_named
      by (asking p ordinal is same) =
          let led = (now roster has.has.before told has.has.first has.words has.has.request m has.has.serving (Ask p ordinal) is).2 in
          there p.space same (some_of_test (λ (named : ProtectionSpace). same_target named.site.target p.target) (numbered names.spaces p.space) (led.of_target p.target ∙ same_itself p.target))

  module _ (n : Kept) (result : Result ProtectionSpace NoMemory) (found : IfOk result (λ is. numbered names.spaces space ≡ Some is)) (given : IsGivenAs (space_given result) m n) where
    module _ (x : Stage) (is : m.stage ≡ x) (answers : IsTrue (is_answer x (space_given result))) (memory : IsTrue (has_memory x m.past)) (waits : pending_at x ≡ none_pending)
        (free : pending_at (stage_told m x (space_given result)) ≡ none_pending)
        (tells : (words : List Drawn) (before : List Told) (first : List Drawn) (request : Request) → IsServing roster before told first words request m
        → (s : Setting) → KnowsBook roster m.seed names (past told) m.number request s → IsTold s m x (space_given result)) where
      answered : IsTrue (is_answer m.stage (space_given result))
      answered = subst (λ y. IsTrue (is_answer y (space_given result))) (sym is) answers

      no_number : (r : Result ProtectionSpace NoMemory) → is_number (space_given r) ≡ false
      no_number (Ok is) = refl
      no_number (Err none) = refl

      at_given : IsGiven roster told told m n
      at_given =
          told_given roster told m n (SpaceOf space) need (space_given result) given answered told (no_text names m m.stage (space_given result) (no_number result))
          (λ words before first request serving s k. subst (λ y. IsTold s m y (space_given result)) (sym is) (tells words before first request serving s k))

      at_on : IsServedOnBy roster told told m n
      at_on =
          told_on roster told m n (SpaceOf space) need (space_given result) given answered
          (given.past ∙ same_past result) (subst (λ y. IsTrue (has_memory y m.past)) (sym is) memory) (ap pending_at is ∙ waits)
          (λ u. ap pending_at (given.stage answered ∙ ap (λ y. stage_told m y (space_given result)) is) ∙ free)
          (λ words before first request serving s k. subst (λ y. IsTold s m y (space_given result)) (sym is) (tells words before first request serving s k))
        where
          same_past : (r : Result ProtectionSpace NoMemory) → past_given m (space_given r) ≡ m.past
          same_past (Ok is) = refl
          same_past (Err none) = refl

      pub at_both : IsGiven roster told told m n × IsServedOnBy roster told told m n
      at_both = (at_given, at_on)

    of_held : (t : Target) (h : Holding) → m.stage ≡ Learn t OfSpace → holding m t ≡ Some h → h.gift.space ≡ space
        → (r : Result ProtectionSpace NoMemory) → result ≡ r → IsGiven roster told told m n × IsServedOnBy roster told told m n
    of_held t h is holds same (Ok sp) e =
        let a : IsTrue (is_answer (Learn t OfSpace) (space_given result)) = subst (λ x. IsTrue (is_answer (Learn t OfSpace) (space_given x))) (sym e) refl in
        let f : pending_at (stage_told m (Learn t OfSpace) (space_given result)) ≡ none_pending = subst (λ x. pending_at (stage_told m (Learn t OfSpace) (space_given x)) ≡ none_pending) (sym e) refl in
        let there : numbered names.spaces h.gift.space ≡ Some sp = subst (λ k. numbered names.spaces k ≡ Some sp) (sym same) (subst (λ x. IfOk x (λ y. numbered names.spaces space ≡ Some y)) e found) in
        at_both (Learn t OfSpace) is a refl refl f (λ words before first request serving s k. subst (λ x. IsTold s m (Learn t OfSpace) (space_given x)) (sym e) (space_told roster before told first words request m serving t OfSpace h is holds sp there s k))
    of_held t h is holds same (Err none) e =
        let a : IsTrue (is_answer (Learn t OfSpace) (space_given result)) = subst (λ x. IsTrue (is_answer (Learn t OfSpace) (space_given x))) (sym e) refl in
        let f : pending_at (stage_told m (Learn t OfSpace) (space_given result)) ≡ none_pending = subst (λ x. pending_at (stage_told m (Learn t OfSpace) (space_given x)) ≡ none_pending) (sym e) refl in
        at_both (Learn t OfSpace) is a refl refl f (λ words before first request serving s k. subst (λ x. IsTold s m (Learn t OfSpace) (space_given x)) (sym e) tt)

    of_prompt : (p : Prompt) (ordinal : ℕ) → m.stage ≡ Ask p ordinal → p.space ≡ space → (r : Result ProtectionSpace NoMemory) → result ≡ r → IsGiven roster told told m n × IsServedOnBy roster told told m n
    of_prompt p ordinal is same (Ok sp) e =
        let a : IsTrue (is_answer (Ask p ordinal) (space_given result)) = subst (λ x. IsTrue (is_answer (Ask p ordinal) (space_given x))) (sym e) refl in
        let f : pending_at (stage_told m (Ask p ordinal) (space_given result)) ≡ none_pending = subst (λ x. pending_at (stage_told m (Ask p ordinal) (space_given x)) ≡ none_pending) (sym e) refl in
        let there : numbered names.spaces p.space ≡ Some sp = subst (λ k. numbered names.spaces k ≡ Some sp) (sym same) (subst (λ x. IfOk x (λ y. numbered names.spaces space ≡ Some y)) e found) in
        at_both (Ask p ordinal) is a refl refl f (λ words before first request serving s k. subst (λ x. IsTold s m (Ask p ordinal) (space_given x)) (sym e) (k.knows.space_of p.space sp there))
    of_prompt p ordinal is same (Err none) e =
        let a : IsTrue (is_answer (Ask p ordinal) (space_given result)) = subst (λ x. IsTrue (is_answer (Ask p ordinal) (space_given x))) (sym e) refl in
        let f : pending_at (stage_told m (Ask p ordinal) (space_given result)) ≡ none_pending = subst (λ x. pending_at (stage_told m (Ask p ordinal) (space_given x)) ≡ none_pending) (sym e) refl in
        at_both (Ask p ordinal) is a refl refl f (λ words before first request serving s k. subst (λ x. IsTold s m (Ask p ordinal) (space_given x)) (sym e) tt)

    pub space_answered : IsGiven roster told told m n × IsServedOnBy roster told told m n
    space_answered = by (space_of_need m m.stage space need)
      where
        by : IsSpaceStage m space m.stage → IsGiven roster told told m n × IsServedOnBy roster told told m n
        by (held t h is holds same) = of_held t h is holds same result refl
        by (asking p ordinal is same) = of_prompt p ordinal is same result refl

-- THE IDENTITY

module _ (roster : Roster) (told : List Told) (m : Kept) (has : HasServingBy roster told m) (gift : Gift) (need : need_at m m.stage ≡ Some (IdentityOf gift)) where
  abbrev at_identity : (t : Target) × (h : Holding) × (m.stage ≡ Learn t OfIdentity) × (holding m t ≡ Some h) × (h.gift ≡ gift)
  at_identity = identity_need m m.stage gift need

  pub identity_there : IsTrue (is_some (giving (past told) gift))
  identity_there =
      subst (λ x. IsTrue (is_some (giving (past told) x))) at_identity.4
      (reads roster has.has.before told has.has.first has.words has.has.request m has.has.serving at_identity.0 OfIdentity at_identity.1 at_identity.2 at_identity.3).is_given

  module _ (n : Kept) (result : Result Login NoMemory) (found : IfOk result (λ is. identity roster (names_told told) (past told) gift ≡ Some is)) (given : IsGivenAs (identity_given result) m n) where
    gives : (t : Target) (h : Holding) → m.stage ≡ Learn t OfIdentity → holding m t ≡ Some h → h.gift ≡ gift → (r : Result Login NoMemory) → result ≡ r → IsGiven roster told told m n × IsServedOnBy roster told told m n
    gives t h is holds same r e = (
      told_given roster told m n (IdentityOf gift) need (identity_given result) given (answered r e) told (no_text (names_told told) m m.stage (identity_given result) (no_number result))
          (λ words before first request serving s k. subst (λ y. IsTold s m y (identity_given result)) (sym is) (tells words before first request serving s k result refl)),
      told_on roster told m n (IdentityOf gift) need (identity_given result) given (answered r e)
          (given.past ∙ same_past result) (subst (λ y. IsTrue (has_memory y m.past)) (sym is) refl) (ap pending_at is)
          (λ u. ap pending_at (given.stage (answered r e) ∙ ap (λ y. stage_told m y (identity_given result)) is) ∙ free result)
          (λ words before first request serving s k. subst (λ y. IsTold s m y (identity_given result)) (sym is) (tells words before first request serving s k result refl)),
    )
      where
        answered : (r : Result Login NoMemory) → result ≡ r → IsTrue (is_answer m.stage (identity_given result))
        answered r e = subst (λ y. IsTrue (is_answer y (identity_given result))) (sym is) (any result)
          where
            any : (x : Result Login NoMemory) → IsTrue (is_answer (Learn t OfIdentity) (identity_given x))
            any (Ok is) = refl
            any (Err none) = refl

        no_number : (x : Result Login NoMemory) → is_number (identity_given x) ≡ false
        no_number (Ok is) = refl
        no_number (Err none) = refl

        same_past : (x : Result Login NoMemory) → past_given m (identity_given x) ≡ m.past
        same_past (Ok is) = refl
        same_past (Err none) = refl

        free : (x : Result Login NoMemory) → pending_at (stage_told m (Learn t OfIdentity) (identity_given x)) ≡ none_pending
        free (Ok is) = refl
        free (Err none) = refl

        tells : (words : List Drawn) (before : List Told) (first : List Drawn) (request : Request) → IsServing roster before told first words request m
            → (s : Setting) → KnowsBook roster m.seed (names_told told) (past told) m.number request s
            → (x : Result Login NoMemory) → result ≡ x → IsTold s m (Learn t OfIdentity) (identity_given x)
        tells words before first request serving s k (Ok login) e =
            identity_told roster before told first words request m serving t OfIdentity h is holds login
            (subst (λ g. identity roster (names_told told) (past told) g ≡ Some login) (sym same) (subst (λ x. IfOk x (λ y. identity roster (names_told told) (past told) gift ≡ Some y)) e found)) s k
        tells words before first request serving s k (Err none) e = tt

    pub identity_answered : IsGiven roster told told m n × IsServedOnBy roster told told m n
    identity_answered = gives at_identity.0 at_identity.1 at_identity.2 at_identity.3 at_identity.4 result refl

-- THE TERMS

module _ (roster : Roster) (told : List Told) (m : Kept) (has : HasServingBy roster told m) (terms : ℕ) (need : need_at m m.stage ≡ Some (TermsOf terms)) where
  abbrev at_terms : (t : Target) × (h : Holding) × (m.stage ≡ Learn t OfTerms) × (holding m t ≡ Some h) × (h.terms ≡ terms)
  at_terms = terms_of_need m m.stage terms need

  -- the identity is a Digest one
  digest : (words : List Drawn) (before : List Told) (first : List Drawn) (request : Request) → IsServing roster before told first words request m → IsTrue (scheme_told at_terms.1.space Digest)
  digest words before first request serving =
      let ties = ties_here roster before told first words request m serving in
      let lack = subst (IsKept (setting_of roster m.seed (names_told told) (past told) m.number request) m) at_terms.2 ties.kept in
      (subst (λ o. IfSome o (IsLack OfTerms)) at_terms.3 lack).0

  pub terms_there : IsTrue (is_some (numbered (names_told told).terms terms))
  terms_there =
      subst (λ x. IsTrue (is_some (numbered (names_told told).terms x))) at_terms.4
      (terms_named roster has.has.before told has.has.first has.words has.has.request m has.has.serving at_terms.0 OfTerms at_terms.1 at_terms.2 at_terms.3
      (digest has.words has.has.before has.has.first has.has.request has.has.serving))

  module _ (n : Kept) (result : Result (Terms × ℕ) NoMemory)
      (found : IfOk result (λ is. option_map {U = Terms × ℕ} (λ (name : TermsName). (name.terms, name.nonce)) (numbered (names_told told).terms terms) ≡ Some is)) (given : IsGivenAs (terms_given result) m n) where
    were_answered : IsTrue (is_answer m.stage (terms_given result))
    were_answered = subst (λ y. IsTrue (is_answer y (terms_given result))) (sym at_terms.2) (any result)
      where
        any : (x : Result (Terms × ℕ) NoMemory) → IsTrue (is_answer (Learn at_terms.0 OfTerms) (terms_given x))
        any (Ok is) = refl
        any (Err none) = refl

    terms_no_number : (x : Result (Terms × ℕ) NoMemory) → is_number (terms_given x) ≡ false
    terms_no_number (Ok is) = refl
    terms_no_number (Err none) = refl

    terms_same_past : (x : Result (Terms × ℕ) NoMemory) → past_given m (terms_given x) ≡ m.past
    terms_same_past (Ok is) = refl
    terms_same_past (Err none) = refl

    terms_free : (x : Result (Terms × ℕ) NoMemory) → pending_at (stage_told m (Learn at_terms.0 OfTerms) (terms_given x)) ≡ none_pending
    terms_free (Ok is) = refl
    terms_free (Err none) = refl

    terms_tells : (words : List Drawn) (before : List Told) (first : List Drawn) (request : Request) → IsServing roster before told first words request m
        → (s : Setting) → KnowsBook roster m.seed (names_told told) (past told) m.number request s
        → (x : Result (Terms × ℕ) NoMemory) → result ≡ x → IsTold s m (Learn at_terms.0 OfTerms) (terms_given x)
    terms_tells words before first request serving s k (Ok is) e =
        terms_told roster before told first words request m serving at_terms.0 OfTerms at_terms.1 at_terms.2 at_terms.3 (digest words before first request serving) is.0 is.1
        (subst (λ g. option_map {U = Terms × ℕ} (λ (name : TermsName). (name.terms, name.nonce)) (numbered (names_told told).terms g) ≡ Some is) (sym at_terms.4)
        (subst (λ x. IfOk x (λ y. option_map {U = Terms × ℕ} (λ (name : TermsName). (name.terms, name.nonce)) (numbered (names_told told).terms terms) ≡ Some y)) e found)) s k
    terms_tells words before first request serving s k (Err none) e = tt

    pub terms_answered : IsGiven roster told told m n × IsServedOnBy roster told told m n
    terms_answered = (
      told_given roster told m n (TermsOf terms) need (terms_given result) given were_answered told (no_text (names_told told) m m.stage (terms_given result) (terms_no_number result))
          (λ words before first request serving s k. subst (λ y. IsTold s m y (terms_given result)) (sym at_terms.2) (terms_tells words before first request serving s k result refl)),
      told_on roster told m n (TermsOf terms) need (terms_given result) given were_answered
          (given.past ∙ terms_same_past result) (subst (λ y. IsTrue (has_memory y m.past)) (sym at_terms.2) refl) (ap pending_at at_terms.2)
          (λ u. ap pending_at (given.stage were_answered ∙ ap (λ y. stage_told m y (terms_given result)) at_terms.2) ∙ terms_free result)
          (λ words before first request serving s k. subst (λ y. IsTold s m y (terms_given result)) (sym at_terms.2) (terms_tells words before first request serving s k result refl)),
    )
