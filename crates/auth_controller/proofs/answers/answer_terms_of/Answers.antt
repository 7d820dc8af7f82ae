-- The terms may be read, and are so.
use Rattle.std.proofs.Common.{◌≡◌, sym, subst}
use Rattle.std.proofs.Common.{IsTrue, Some, is_some, option_map}
use Rattle.std.specs.Prelude.{ℕ, IfOk, Result}
use Rattle.auth_text.specs.declared.items.NoMemory.{NoMemory}
use Rattle.spaces.specs.declared.terms.Terms.{Terms}
use Rattle.spaces.specs.Sites.{numbered}
use Rattle.auth_events.specs.declared.names.TermsName.{TermsName}
use Rattle.auth_events.specs.Tables.{Tables}
use Rattle.auth_events.specs.Told.{names_told}
use Rattle.auth_controller.specs.Answering.{IsGivenAs}
use Rattle.auth_controller.proofs.Arms.{setting_by}
use Rattle.auth_controller.proofs.Reading.{terms_there, terms_answered}
use Rattle.auth_controller.proofs.answers.answer_terms_of.Goals as goal

told_so : (names before : Tables) → names ≡ before → (result : Result (Terms × ℕ) NoMemory) (n : ℕ)
    → IfOk result (λ is. option_map {U = Terms × ℕ} (λ (name : TermsName). (name.terms, name.nonce)) (numbered names.terms n) ≡ Some is)
    → IfOk result (λ is. option_map {U = Terms × ℕ} (λ (name : TermsName). (name.terms, name.nonce)) (numbered before.terms n) ≡ Some is)
told_so names before same result n found = subst (λ (t : Tables). IfOk result (λ is. option_map {U = Terms × ℕ} (λ (name : TermsName). (name.terms, name.nonce)) (numbered t.terms n) ≡ Some is)) same found

pub terms_of-told-requires : goal.terms_of-told-requires
terms_of-told-requires g c =
    let book = c.args.book.now in
    subst (λ (t : Tables). IsTrue (is_some (numbered t.terms c.args.terms))) (g.met.B.Controller.told_names book) (terms_there (g.B.Controller.roster book) (g.B.Controller.told book) c.args.machine.now c.requires.serving c.args.terms c.requires.need)

pub give-requires : goal.give-requires
give-requires g c =
    let book = c.args.book.now in
    setting_by (g.B.Controller.roster book) (g.B.Controller.told book) c.args.machine.now c.requires.serving

pub returns-clause-given : goal.returns-clause-given
returns-clause-given g c =
    let book = c.args.book.now in
    (terms_answered (g.B.Controller.roster book) (g.B.Controller.told book) c.args.machine.now c.requires.serving c.args.terms c.requires.need c.give.new.machine c.terms_of-told.result
    (told_so (g.B.Controller.names book) (names_told (g.B.Controller.told book)) (sym (g.met.B.Controller.told_names book)) c.terms_of-told.result c.args.terms c.terms_of-told.ensures)
    (subst (λ x. IsGivenAs x c.args.machine.now c.give.new.machine) c.terms_given.ensures c.give.ensures)).0

pub returns-clause-serving : goal.returns-clause-serving
returns-clause-serving g c =
    let book = c.args.book.now in
    (terms_answered (g.B.Controller.roster book) (g.B.Controller.told book) c.args.machine.now c.requires.serving c.args.terms c.requires.need c.give.new.machine c.terms_of-told.result
    (told_so (g.B.Controller.names book) (names_told (g.B.Controller.told book)) (sym (g.met.B.Controller.told_names book)) c.terms_of-told.result c.args.terms c.terms_of-told.ensures)
    (subst (λ x. IsGivenAs x c.args.machine.now c.give.new.machine) c.terms_given.ensures c.give.ensures)).1
