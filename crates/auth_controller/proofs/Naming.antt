-- A machine that is given the number of what it named is served on.
use Rattle.std.proofs.Common.{◌≡◌, ℕ, ◌+◌, ◌≤◌, ◌==◌, Bool, true, false, not, cond, IsTrue, List, [], ◌∷◌, ◌++◌, length, Some, None, is_some, refl, sym, ap, ◌∙◌, subst, arith, if◌then◌else◌}
use Rattle.std.specs.Prelude.{All, ◌-◌, slice_get, IfOk, OnErr, OnOk, Result, Ok, Err}
use Rattle.std.specs.List.{list_any}
use Rattle.std.proofs.lemmas.Bool.{false≢true}
use Rattle.std.proofs.lemmas.List.Elements.{All-cons, All-nil}
use Rattle.auth_text.specs.declared.items.NoMemory.{NoMemory}
use Rattle.spaces.specs.declared.roster.Request.{Request}
use Rattle.spaces.specs.declared.roster.Roster.{Roster}
use Rattle.spaces.specs.declared.site.Target.{Target}
use Rattle.spaces.specs.ProtectionSpaces.{ProtectionSpace}
use Rattle.spaces.specs.Sites.{numbered}
use Rattle.auth_events.specs.declared.journal.Drawn.{Drawn}
use Rattle.auth_events.specs.declared.told.Told.{Told}
use Rattle.auth_events.specs.declared.told.Told.TheVariants.{SpaceNamed}
use Rattle.auth_events.specs.Book.{IsLegalPast}
use Rattle.auth_events.specs.Pages.{IsPage}
use Rattle.auth_events.specs.Tables.{AreFew, AreNames, Tables, space_number, with_new_space}
use Rattle.auth_events.specs.Told.{MayNameSpace, entry_told, journal, names_told, past, told_space}
use Rattle.book_laws.specs.Owners.{AddsOwn, maker}
use Rattle.book_laws.proofs.Sharing.{adds_none}
use Rattle.trace_laws.specs.Lengths.{terms_given}
use Rattle.trace_laws.proofs.Renewals.{few_terms}
use Rattle.trace_rule.specs.Holding.{is_no_mechanism}
use Rattle.trace_rule.specs.Settings.{Setting, setting_of}
use Rattle.trace_rule.specs.Traces.{IsPast}
use Rattle.trace_rule.proofs.Drops.{none_missing, spaces_numbered}
use Rattle.serving_laws.specs.Alone.{entries_of}
use Rattle.serving_laws.specs.Knowing.{KnowsBook}
use Rattle.serving_laws.specs.Meeting.{none_pending}
use Rattle.serving_laws.specs.Rooms.{HasNamed, begun}
use Rattle.serving_laws.proofs.Named.{entries_few, named_few, space_told as names_of_space, with_space_has}
use Rattle.request_machine.specs.declared.gave.Gave.{Gave}
use Rattle.request_machine.specs.declared.gave.Gave.TheVariants.{NoMemory as NoneGiven, Number}
use Rattle.request_machine.specs.declared.need.Need.{Need}
use Rattle.request_machine.specs.declared.need.Need.TheVariants.{SpaceNo}
use Rattle.request_machine.specs.declared.stage.Stage.TheVariants.{NameSpace, NameTerms, Select as Selecting, Spent}
use Rattle.request_machine.specs.Gives.{IsTold}
use Rattle.request_machine.specs.Kept.{Kept}
use Rattle.request_machine.specs.Needs.{need_at}
use Rattle.request_machine.specs.Work.{is_answer, stage_told}
use Rattle.auth_controller.specs.Answering.{HasServingBy, IsGiven, IsGivenAs, IsServedOnBy, number_given}
use Rattle.auth_controller.specs.Serving.{IsServing, has_memory, pending_at}
use Rattle.auth_controller.specs.Texts.{IsTextGiven}
use Rattle.auth_controller.proofs.Asking.{now}
use Rattle.auth_controller.proofs.Going.{named_serving, told_serving}
use Rattle.auth_controller.proofs.Names.{may_name_space, space_so}
use Rattle.auth_controller.proofs.NeedStages.{space_need}
use Rattle.auth_controller.proofs.Reading.{told_given}
use Rattle.auth_controller.proofs.Texts.{no_text}

-- NOTHING, OR ONE NAME

module _ (roster : Roster) (told more : List Told) (m n : Kept) (item : Told) (b : Bool) (after : more ≡ cond b told (told ++ item ∷ [])) (none : entry_told item ≡ None) (own : maker item ≡ 1)
    (requests : ℕ) (pages : All (IsPage requests) (journal told)) (legal : IsLegalPast roster (names_told more) (past more)) (are_names : AreNames (names_told more)) where
  pub name_adds : AddsOwn 1 told more
  name_adds = at b after
    where
      at : (c : Bool) → more ≡ cond c told (told ++ item ∷ []) → AddsOwn 1 told more
      at true same = subst (AddsOwn 1 told) (sym same) (adds_none 1 told)
      at false same = record { items = item ∷ []; grows = sym same; own = All-cons (λ (i : Told). maker i ≡ 1) item [] own (All-nil (λ (i : Told). maker i ≡ 1)) }

  module _ (gave : Gave) (given : IsGivenAs gave m n) (same : n.past ≡ m.past) (before : List Told) (first words : List Drawn) (request : Request) (serving : IsServing roster before told first words request m)
      (tells : (s : Setting) → KnowsBook roster m.seed (names_told more) (past more) m.number request s → IsTold s m m.stage gave)
      (few : AreFew (begun (past before) + 1) (names_told more))
      (named : IsTrue (has_memory n.stage n.past) → HasNamed (names_told before) (names_told more) m.number m.past (pending_at n.stage)) where
    pub name_on : IsServing roster before more first words request n
    name_on = at b after
      where
        at : (c : Bool) → more ≡ cond c told (told ++ item ∷ []) → IsServing roster before more first words request n
        at true unchanged =
            subst (λ l. IsServing roster before l first words request n) (sym unchanged)
            (told_serving roster before told first words request m n serving (record { number = given.number; seed = given.seed }) same
            (λ s k t. given.ties s (tells s (subst (λ l. KnowsBook roster m.seed (names_told l) (past l) m.number request s) (sym unchanged) k)) t)
            (λ u. subst (λ l. HasNamed (names_told before) (names_told l) m.number m.past (pending_at n.stage)) unchanged (named u)))
        at false pushed =
            named_serving roster before told first words request m n serving (record { number = given.number; seed = given.seed }) more item requests same pushed none own pages legal are_names
            (λ s k t. given.ties s (tells s k) t) few named

-- THERE WAS NO MEMORY

module _ (roster : Roster) (told : List Told) (m n : Kept) (need : Need) (asks : need_at m m.stage ≡ Some need) (given : IsGivenAs NoneGiven m n) (answers : IsTrue (is_answer m.stage NoneGiven)) (spent : stage_told m m.stage NoneGiven ≡ Spent) (tells : (s : Setting) → IsTold s m m.stage NoneGiven) where
  pub none_on : IsServedOnBy roster told told m n
  none_on words = record {
    adds = adds_none 1 told;
    on = λ before first request serving.
        told_serving roster before told first words request m n serving (record { number = given.number; seed = given.seed }) given.past
        (λ s k t. given.ties s (tells s) t)
        (λ u. absurd (false≢true (subst (λ x. IsTrue (has_memory x n.past)) (given.stage answers ∙ spent) u)));
  }

-- HOW MANY NAMES THERE ARE THEN

module _ (roster : Roster) (before told : List Told) (first words : List Drawn) (request : Request) (m : Kept) (serving : IsServing roster before told first words request m)
    (run : IsPast (setting_of roster m.seed (names_told told) (past told) m.number request) m.past) where
  abbrev here : Setting
  here = setting_of roster m.seed (names_told told) (past told) m.number request

  pub entries_short : length (entries_of m.number m.past) ≤ 56
  entries_short = entries_few here (spaces_numbered false roster m.seed (names_told told) (past told) m.number request) m.number m.past run

  pub given_few : terms_given m.past ≤ 16
  given_few =
      let bound : ◌≡◌ {A = ℕ} (if list_any is_no_mechanism m.past then 17 else 16) 16 =
      ap {B = ℕ} (λ x. if x then 17 else 16) (none_missing here (spaces_numbered false roster m.seed (names_told told) (past told) m.number request) refl m.past run) in
      omega (arith, bound, few_terms here (spaces_numbered false roster m.seed (names_told told) (past told) m.number request) m.past run)

-- A SPACE

pub nonzero : {A : Type 0} (xs : List A) (n : ℕ) (x : A) → numbered xs n ≡ Some x → IsTrue (not (n == 0))
nonzero xs n x is = at (n == 0) refl is
  where
    at : (b : Bool) → (n == 0) ≡ b → numbered xs n ≡ Some x → IsTrue (not b)
    at true zero_is found = absurd (let clash : None ≡ Some x = sym (ap (λ c. if c then None else slice_get xs (n - 1)) zero_is) ∙ found in cc)
    at false zero_is found = refl

is_waiting_space : (m : Kept) (t : Target) (n : ℕ) → pending_at (stage_told m (NameSpace t) (Number n)) ≡ record { space = Some n; terms = None; text = None }
is_waiting_space m t n = at (is_some m.unnamed_terms)
  where
    at : (b : Bool) → pending_at (if b then NameTerms t n else Selecting t n 0) ≡ record { space = Some n; terms = None; text = None }
    at true = refl
    at false = refl

module _ (roster : Roster) (told : List Told) (m : Kept) (has : HasServingBy roster told m) (space : ProtectionSpace) (need : need_at m m.stage ≡ Some (SpaceNo space)) where
  abbrev at_space : (t : Target) × (m.stage ≡ NameSpace t) × (m.unnamed_space ≡ Some space)
  at_space = space_need m m.stage space need

  pub space_may : MayNameSpace roster (names_told told) space
  space_may = may_name_space roster has.has.before told has.has.first has.words has.has.request m has.has.serving at_space.0 at_space.1 space

  module _ (more : List Told) (n : Kept) (requests : ℕ) (pages : All (IsPage requests) (journal told)) (legal : IsLegalPast roster (names_told more) (past more)) (are_names : AreNames (names_told more))
      (result : Result ℕ NoMemory) (numbered_so : IfOk result (λ number. numbered (names_told more).spaces number ≡ Some space))
      (after : OnOk result (more ≡ told_space 1 (names_told told) told space)) (unchanged : OnErr result (more ≡ told)) (given : IsGivenAs (number_given result) m n) where
    space_ok : (number : ℕ) → numbered (names_told more).spaces number ≡ Some space → more ≡ told_space 1 (names_told told) told space → IsGivenAs (Number number) m n → IsGiven roster told more m n × IsServedOnBy roster told more m n
    space_ok number is grew given = (
      told_given roster told m n (SpaceNo space) need (Number number) given answers more (subst (λ x. IsTextGiven (names_told more) m x (Number number)) (sym at_space.1) tt)
          (λ words before first request serving s k. subst (λ x. IsTold s m x (Number number)) (sym at_space.1) (space_so roster before told first words request m serving at_space.0 at_space.1 more space number are_names at_space.2 is s k)),
      λ words. record {
        adds = name_adds roster told more m n (SpaceNamed 1 space) (is_some (space_number (names_told told) space)) grew refl refl requests pages legal are_names;
        on = λ before first request serving.
            name_on roster told more m n (SpaceNamed 1 space) (is_some (space_number (names_told told) space)) grew refl refl requests pages legal are_names
            (Number number) given given.past before first words request serving
            (λ s k. subst (λ x. IsTold s m x (Number number)) (sym at_space.1) (space_so roster before told first words request m serving at_space.0 at_space.1 more space number are_names at_space.2 is s k))
            (few before first words request serving) (λ u. named before first words request serving);
      },
    )
      where
        answers : IsTrue (is_answer m.stage (Number number))
        answers = subst (λ x. IsTrue (is_answer x (Number number))) (sym at_space.1) (nonzero (names_told more).spaces number space is)

        names_are : names_told more ≡ with_new_space (names_told told) space
        names_are = ap names_told grew ∙ names_of_space told space

        has_it : (before : List Told) (first words : List Drawn) (request : Request) → IsServing roster before told first words request m
            → HasNamed (names_told before) (names_told more) m.number m.past (record { space = Some number; terms = None; text = None })
        has_it before first words request serving =
            subst (λ t. HasNamed (names_told before) t m.number m.past (record { space = Some number; terms = None; text = None })) (sym names_are)
            (with_space_has (names_told before) (names_told told) m.number m.past none_pending
            (subst (λ x. HasNamed (names_told before) (names_told told) m.number m.past (pending_at x)) at_space.1 (serving.named (subst (λ x. IsTrue (has_memory x m.past)) (sym at_space.1) refl)))
            space number refl (subst (λ (t : Tables). numbered t.spaces number ≡ Some space) names_are is))

        named : (before : List Told) (first words : List Drawn) (request : Request) → IsServing roster before told first words request m
            → HasNamed (names_told before) (names_told more) m.number m.past (pending_at n.stage)
        named before first words request serving =
            subst (HasNamed (names_told before) (names_told more) m.number m.past)
            (sym (ap pending_at (given.stage answers ∙ ap (λ x. stage_told m x (Number number)) at_space.1) ∙ is_waiting_space m at_space.0 number)) (has_it before first words request serving)

        few : (before : List Told) (first words : List Drawn) (request : Request) → IsServing roster before told first words request m → AreFew (begun (past before) + 1) (names_told more)
        few before first words request serving =
            let run = (now roster before told first words request m serving (NameSpace at_space.0) at_space.1).0 in
            let most = given_few roster before told first words request m serving run in
            named_few (names_told before) (names_told more) m.number m.past (record { space = Some number; terms = None; text = None }) (has_it before first words request serving)
            (begun (past before)) serving.few_before (entries_short roster before told first words request m serving run) (omega (arith, most))

    pub space_named : IsGiven roster told more m n × IsServedOnBy roster told more m n
    space_named = by result numbered_so after unchanged given
      where
        by : (r : Result ℕ NoMemory) → IfOk r (λ number. numbered (names_told more).spaces number ≡ Some space) → OnOk r (more ≡ told_space 1 (names_told told) told space) → OnErr r (more ≡ told)
            → IsGivenAs (number_given r) m n → IsGiven roster told more m n × IsServedOnBy roster told more m n
        by (Ok number) is grew same given = space_ok number is grew given
        by (Err free) is grew same given =
            let answers : IsTrue (is_answer m.stage NoneGiven) = subst (λ x. IsTrue (is_answer x NoneGiven)) (sym at_space.1) refl in (
              told_given roster told m n (SpaceNo space) need NoneGiven given answers more (no_text (names_told more) m m.stage NoneGiven refl)
                  (λ words before first request serving s k. subst (λ x. IsTold s m x NoneGiven) (sym at_space.1) tt),
              subst (λ l. IsServedOnBy roster told l m n) (sym same)
                  (none_on roster told m n (SpaceNo space) need given answers (subst (λ x. stage_told m x NoneGiven ≡ Spent) (sym at_space.1) refl) (λ s. subst (λ x. IsTold s m x NoneGiven) (sym at_space.1) tt)),
            )
