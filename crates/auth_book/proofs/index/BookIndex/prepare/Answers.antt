use Rattle.std.proofs.Common.{refl, sym, subst, ap}
use Rattle.std.specs.Prelude.{IsTrue, is_some}
use Rattle.prompt_queue.specs.Prompts.{Queue}
use Rattle.auth_book.specs.declared.index.SpaceRow.{SpaceRow}
use Rattle.auth_book.specs.Rooms.{Roomy}
use Rattle.auth_book.specs.Parts.{part_of}
use Rattle.auth_book.proofs.Parts.{prepared_there}
use Rattle.auth_book.proofs.Preparing.{stands_prepared, stands_same}
use Rattle.auth_book.proofs.index.BookIndex.prepare.Goals as goal

pub returns-in_err-prepare-clause-stands : goal.returns-in_err-prepare-clause-stands
returns-in_err-prepare-clause-stands c =
    (λ roster names past stands. stands_same roster names past c.args.self.now _ stands c.in_err-prepare.ensures.err
    (ap (λ (v : Roomy SpaceRow). v.items) c.in_ok-reserve.ensures.ok) (ap (λ (v : Queue). v.prompts) c.in_ok-add_space.ensures.ok) (ap (λ (v : Queue). v.requests) c.in_ok-add_space.ensures.ok) refl refl refl)

pub returns-then-self-space-clause-record : goal.returns-then-self-space-clause-record
returns-then-self-space-clause-record c =
    subst (λ parts. IsTrue (is_some (part_of parts c.args.partition.now))) (sym c.in_ok-prepare.ensures.ok) (prepared_there c.args.self.now.partitions c.args.partition.now)

pub returns-then-self-space-clause-stands : goal.returns-then-self-space-clause-stands
returns-then-self-space-clause-stands c =
    (λ roster names past stands. stands_prepared roster names past c.args.self.now _ stands c.args.partition.now c.in_ok-prepare.ensures.ok
    (ap (λ (v : Roomy SpaceRow). v.items) c.in_ok-reserve.ensures.ok) (ap (λ (v : Queue). v.prompts) c.in_ok-add_space.ensures.ok) (ap (λ (v : Queue). v.requests) c.in_ok-add_space.ensures.ok) refl refl refl)

pub returns-else-self-space-clause-record : goal.returns-else-self-space-clause-record
returns-else-self-space-clause-record c =
    subst (λ parts. IsTrue (is_some (part_of parts c.args.partition.now))) (sym c.in_ok-prepare.ensures.ok) (prepared_there c.args.self.now.partitions c.args.partition.now)

pub returns-else-self-space-clause-stands : goal.returns-else-self-space-clause-stands
returns-else-self-space-clause-stands c =
    (λ roster names past stands. stands_prepared roster names past c.args.self.now _ stands c.args.partition.now c.in_ok-prepare.ensures.ok
    (ap (λ (v : Roomy SpaceRow). v.items) c.in_ok-reserve.ensures.ok) (ap (λ (v : Queue). v.prompts) c.in_ok-add_space.ensures.ok) (ap (λ (v : Queue). v.requests) c.in_ok-add_space.ensures.ok) refl refl refl)
