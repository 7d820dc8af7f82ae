-- What a book does for a machine, told by its own names.
use Rattle.std.proofs.Common.{◌≡◌, ℕ, ◌+◌, IsTrue, List, [], ◌∷◌, ◌++◌, length, Some, refl, sym, subst, arith}
use Rattle.std.specs.Prelude.{All, IfOk, OnErr, OnOk, Result}
use Rattle.auth_text.specs.Login.{Login}
use Rattle.auth_text.specs.declared.items.NoMemory.{NoMemory}
use Rattle.spaces.specs.declared.roster.Roster.{Roster}
use Rattle.spaces.specs.declared.terms.Terms.{Terms}
use Rattle.spaces.specs.ProtectionSpaces.{ProtectionSpace}
use Rattle.spaces.specs.Sites.{numbered}
use Rattle.auth_events.specs.declared.controller.TermsRef.{TermsRef}
use Rattle.auth_events.specs.declared.journal.BookReply.{BookReply}
use Rattle.auth_events.specs.declared.journal.Call.{Call}
use Rattle.auth_events.specs.declared.journal.Drawn.{Drawn}
use Rattle.auth_events.specs.declared.told.Told.{Told}
use Rattle.auth_events.specs.declared.told.Told.TheVariants.{TextNamed}
use Rattle.auth_events.specs.Book.{IsLegal, IsLegalPast, allowed, answer}
use Rattle.auth_events.specs.Pages.{IsPage}
use Rattle.auth_events.specs.Tables.{AreFew, AreNames, Tables}
use Rattle.auth_events.specs.Told.{has_no_draw, journal, names_told, past, retired_by, told_after, told_space, told_terms}
use Rattle.book_laws.proofs.Lifting.{past_legal}
use Rattle.book_laws.proofs.Stepping.{out_within}
use Rattle.trace_laws.specs.Answering.{made}
use Rattle.serving_laws.specs.Draws.{AreEpochs, with_retired}
use Rattle.request_machine.specs.declared.gave.Gave.TheVariants.{Reply}
use Rattle.request_machine.specs.declared.need.Need.TheVariants.{Book, SpaceNo, TermsNo, TextNo}
use Rattle.request_machine.specs.Kept.{Kept}
use Rattle.request_machine.specs.Needs.{need_at}
use Rattle.request_machine.specs.Rooms.{HasSetting}
use Rattle.auth_controller.specs.Answering.{HasServing, HasServingBy, IsGiven, IsGivenAs, IsServedOn, IsServedOnBy, number_given, numbers_given}
use Rattle.auth_controller.proofs.Answered.{call_given, call_served, has_setting}
use Rattle.auth_controller.proofs.Asking.{asked, may_ask}
use Rattle.auth_controller.proofs.Naming.{space_named}
use Rattle.auth_controller.proofs.NamingTerms.{terms_named, text_named}

-- what a book told is legal under its names
pub legal_told : (roster now : Roster) (names : Tables) (told : List Told) → now ≡ roster → names_told told ≡ names → IsTrue (has_no_draw told) → IsLegal now names (journal told) → IsLegalPast roster (names_told told) (past told)
legal_told roster now names told same_roster same none legal =
    subst (λ x. IsLegalPast x (names_told told) (past told)) same_roster
    (subst (λ (t : Tables). IsLegalPast now t (past told)) (sym same) (past_legal now names told none legal))

pub setting_by : (roster : Roster) (told : List Told) (m : Kept) → HasServingBy roster told m → HasSetting m
setting_by roster told m has = has_setting roster told has.words m has.has

pub by_words : (roster : Roster) (told : List Told) (words : List Drawn) (m : Kept) → HasServing roster told words m → HasServingBy roster told m
by_words roster told words m has = record { words = words; has = has }

-- A CALL

module _ (roster : Roster) (names : Tables) (told : List Told) (words : List Drawn) (r : ℕ) (m : Kept) (has : HasServing roster told words m) (call : Call)
    (same : names_told told ≡ names) (number : r ≡ m.number) (need : need_at m m.stage ≡ Some (Book call)) where
  pub call_may : IsTrue (allowed roster names (past told) 1 r call)
  call_may =
      subst (λ (t : Tables). IsTrue (allowed roster t (past told) 1 r call)) same
      (subst (λ x. IsTrue (allowed roster (names_told told) (past told) 1 x call)) (sym number)
      (may_ask roster has.before told has.first words has.request m has.serving call (asked roster has.before told has.first words has.request m has.serving call need)))

  pub call_epochs : AreEpochs names (past told) words
  call_epochs = subst (λ (t : Tables). AreEpochs t (past told) words) same has.serving.served.drawn.epochs

  module _ (more : List Told) (later : List Drawn) (n : Kept) (reply : BookReply) (legal : IsLegalPast roster (names_told more) (past more)) (given : IsGivenAs (Reply reply) m n) where
    Answers : Tables → ℕ → Type 0
    Answers t x =
        reply ≡ answer roster t (past told) x call → more ≡ told_after told (made 1 x call reply) → AreNames t → AreFew (length roster.requests) t
        → later ≡ with_retired words (retired_by t (past told) (made 1 x call reply)) → IsGiven roster told more m n × IsServedOn roster told more words later m n

    plainly : Answers (names_told told) m.number
    unfolding Answers
    plainly is after are few later_is =
        let out = retired_by (names_told told) (past told) (made 1 m.number call reply) in
        let within = out_within (names_told told) told more (made 1 m.number call reply) out after refl are in (
          call_given roster told more words m n has call reply need is after legal given,
          subst (λ w. IsServedOn roster told more words w m n) (sym later_is)
              (call_served roster told more words m n has call reply need is after legal given out refl (omega (arith, within, few.nonces, has.serving.served.as_many))),
        )

    pub call_answered : reply ≡ answer roster names (past told) r call → more ≡ told_after told (made 1 r call reply) → AreNames names → AreFew (length roster.requests) names
        → later ≡ with_retired words (retired_by names (past told) (made 1 r call reply)) → IsGiven roster told more m n × IsServedOn roster told more words later m n
    unfolding Answers
    call_answered = subst (λ t. Answers t r) same (subst (Answers (names_told told)) (sym number) plainly)

-- NAMES

module _ (roster : Roster) (told more : List Told) (m n : Kept) (has : HasServingBy roster told m) (before after : Tables) (same : names_told told ≡ before) (same_more : names_told more ≡ after)
    (requests : ℕ) (pages : All (IsPage requests) (journal told)) (legal : IsLegalPast roster (names_told more) (past more)) (are_names : AreNames after) where
  are_told : AreNames (names_told more)
  are_told = subst AreNames (sym same_more) are_names

  pub space_answered_by : (space : ProtectionSpace) (result : Result ℕ NoMemory) → need_at m m.stage ≡ Some (SpaceNo space) → IsGivenAs (number_given result) m n
      → IfOk result (λ number. numbered after.spaces number ≡ Some space) → OnOk result (more ≡ told_space 1 before told space) → OnErr result (more ≡ told) → IsGiven roster told more m n × IsServedOnBy roster told more m n
  space_answered_by space result need given =
      subst (λ (u : Tables). IfOk result (λ number. numbered u.spaces number ≡ Some space) → OnOk result (more ≡ told_space 1 before told space) → OnErr result (more ≡ told) → IsGiven roster told more m n × IsServedOnBy roster told more m n) same_more
      (subst (λ t. IfOk result (λ number. numbered (names_told more).spaces number ≡ Some space) → OnOk result (more ≡ told_space 1 t told space) → OnErr result (more ≡ told) → IsGiven roster told more m n × IsServedOnBy roster told more m n) same
      (λ number is unchanged. space_named roster told m has space need more n requests pages legal are_told result number is unchanged given))

  pub terms_answered_by : (space : ℕ) (terms : Terms) (result : Result TermsRef NoMemory) → need_at m m.stage ≡ Some (TermsNo space terms) → IsGivenAs (numbers_given result) m n
      → IfOk result (λ numbers. numbered after.terms numbers.terms ≡ Some (record { space = space; terms = terms; nonce = numbers.nonce })) → OnOk result (more ≡ told_terms 1 before told space terms) → OnErr result (more ≡ told)
      → IsGiven roster told more m n × IsServedOnBy roster told more m n
  terms_answered_by space terms result need given =
      subst (λ (u : Tables). IfOk result (λ numbers. numbered u.terms numbers.terms ≡ Some (record { space = space; terms = terms; nonce = numbers.nonce })) → OnOk result (more ≡ told_terms 1 before told space terms) → OnErr result (more ≡ told) → IsGiven roster told more m n × IsServedOnBy roster told more m n) same_more
      (subst (λ t. IfOk result (λ numbers. numbered (names_told more).terms numbers.terms ≡ Some (record { space = space; terms = terms; nonce = numbers.nonce })) → OnOk result (more ≡ told_terms 1 t told space terms) → OnErr result (more ≡ told) → IsGiven roster told more m n × IsServedOnBy roster told more m n) same
      (λ number is unchanged. terms_named roster told m has space terms need more n requests pages legal are_told result number is unchanged given))

  pub text_answered_by : (text : Login) (result : Result ℕ NoMemory) → need_at m m.stage ≡ Some (TextNo text) → IsGivenAs (number_given result) m n
      → IfOk result (λ number. number ≡ length before.texts + 1) → OnOk result (more ≡ told ++ TextNamed 1 text ∷ []) → OnErr result (more ≡ told) → IsGiven roster told more m n × IsServedOnBy roster told more m n
  text_answered_by text result need given =
      subst (λ (t : Tables). IfOk result (λ number. number ≡ length t.texts + 1) → OnOk result (more ≡ told ++ TextNamed 1 text ∷ []) → OnErr result (more ≡ told) → IsGiven roster told more m n × IsServedOnBy roster told more m n) same
      (λ number is unchanged. text_named roster told m has text need more n requests pages legal are_told result number is unchanged given)
