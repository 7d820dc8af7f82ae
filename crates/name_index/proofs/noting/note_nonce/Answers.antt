-- The nonce that has no number gets the next one.
use Rattle.std.proofs.Common.{◌≡◌, ◌<◌, ℕ, List, Some, length, sym, subst, arith}
use Rattle.std.proofs.lemmas.Grind.{common_steps}
use Rattle.spaces.specs.Sites.{numbered}
use Rattle.spaces.specs.declared.site.Site.{Site}
use Rattle.auth_events.specs.declared.names.TermsName.{TermsName}
use Rattle.name_index.specs.Found.{KnowsNonces}
use Rattle.name_index.proofs.Nonces.{is_next, key_of_same, nonce_more, nonce_noted}
use Rattle.name_index.proofs.noting.note_nonce.Goals as goal

pub returns-clause-knows : goal.returns-clause-knows
returns-clause-knows c =
    let names = c.args.names.now in
    let name : TermsName = record { space = c.args.space; terms = c.args.terms.now; nonce = c.args.nonce } in
    let at : numbered names.spaces c.args.space ≡ Some c.in-Some.named.now = grind (arith, common_steps) in
    let above : length names.nonces < c.args.nonce = omega arith in
    let new = is_next names name c.in-Some.named.now at c.requires.nonce above in
    let asked : Site × List ℕ = (c.in-Some.named.now.site, c.args.terms.now.nonce) in
    let of_it = key_of_same c.in_ok-key-in-Some.key c.site.result.now asked.0 c.as_slice.result.now asked.1 c.site.ensures c.as_slice.ensures c.in_ok-key-in-Some.ensures in
    nonce_noted c.args.nonces.now c.insert.new.self names c.in_ok-key-in-Some.key asked c.args.nonce c.requires.knows new.unknown of_it c.in_ok-insert-in-Some.ensures.updates

pub returns-clause-next : goal.returns-clause-next
returns-clause-next c =
    let names = c.args.names.now in
    let name : TermsName = record { space = c.args.space; terms = c.args.terms.now; nonce = c.args.nonce } in
    let at : numbered names.spaces c.args.space ≡ Some c.in-Some.named.now = grind (arith, common_steps) in
    let above : length names.nonces < c.args.nonce = omega arith in
    let new = is_next names name c.in-Some.named.now at c.requires.nonce above in
    let asked : Site × List ℕ = (c.in-Some.named.now.site, c.args.terms.now.nonce) in
    let of_it = key_of_same c.in_ok-key-in-Some.key c.site.result.now asked.0 c.as_slice.result.now asked.1 c.site.ensures c.as_slice.ensures c.in_ok-key-in-Some.ensures in
    subst (KnowsNonces c.insert.new.self) (sym new.more)
    (nonce_more c.args.nonces.now c.insert.new.self names c.in_ok-key-in-Some.key asked c.args.nonce c.requires.knows new.unknown of_it c.in_ok-insert-in-Some.ensures.updates new.next)
