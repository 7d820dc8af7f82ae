-- A reply that is read over a link can be one.
use Rattle.std.proofs.Common.{◌≡◌, ℕ, ◌&&◌, ◌==◌, ◌++◌, Bool, true, false, List, Option, length}
use Rattle.std.proofs.lemmas.Bool.{false≢true}
use Rattle.spaces.specs.declared.roster.Method.{Method}
use Rattle.link_trait.specs.declared.links.LinkName.{LinkName}
use Rattle.link_trait.specs.declared.dialer.Traffic.{Traffic}
use Rattle.link_trait.specs.Links.{read_on}
use Rattle.wire_head.specs.declared.reply.Reply.{Reply}
use Rattle.wire_head.specs.FinalHeads.{IsShown, values_fit, is_final}
use Rattle.connection_binding.specs.declared.ends.ReadEnd.{ReadEnd}
use Rattle.connection_binding.specs.declared.ends.ReadEnd.TheVariants.{Whole, Broken, Lost, Failed, NoMemory}
use Rattle.connection_binding.specs.Readings.{IsReplyRead}
use Rattle.request_machine.specs.Reads.{IsFitRead}

both : (a b : Bool) → a ≡ true → b ≡ true → (a && b) ≡ true
both true b first second = second
both false b first second = first

-- a link that gave no reply before isn't lost
never_gone : (a b : Bool) → (a && (b && false)) ≡ true → ⊥
never_gone true true is = false≢true is
never_gone true false is = false≢true is
never_gone false b is = false≢true is

-- its code is a final one, and only a challenge has challenges
pub fit_read : (link : LinkName) (method : Method) (streams : Option (LinkName → List ℕ)) (old new : Option (List Traffic)) (end : ReadEnd)
    → ((text : List ℕ) (r : Reply) → IsShown text r → values_fit r ≡ true) → ((text : List ℕ) (r : Reply) → IsShown text r → is_final r.code ≡ true)
    → IsReplyRead link method streams old new end → IsFitRead end
fit_read link method streams old new (Whole reply) fit last_code read =
    let text : List ℕ = (read_on link (read.front ++ read.last)).bytes in
    let shown : IsShown text reply = (method, (read_on link (read.front ++ read.last)).ended, read.shows.0, read.shows.1) in
    both (is_final reply.code) (values_fit reply) (last_code text reply shown) (fit text reply shown)
fit_read link method streams old new (Broken fault) fit last_code read = tt
fit_read link method streams old new Lost fit last_code read =
    let seen = read_on link (read.front ++ read.last) in
    never_gone seen.ended (length seen.bytes == 0) read.shows.0
fit_read link method streams old new (Failed count) fit last_code read = tt
fit_read link method streams old new NoMemory fit last_code read = tt
