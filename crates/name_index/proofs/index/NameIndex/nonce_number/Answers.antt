use Rattle.std.proofs.Common.{◌≡◌, ◌∙◌, ◌+◌, ℕ, List, ap, ap₂, arith, length}
use Rattle.std.specs.Prelude.{unwrap_or}
use Rattle.std.proofs.lemmas.Grind.{common_steps}
use Rattle.std.specs.BTreeMap.{get}
use Rattle.spaces.specs.declared.site.Site.{Site}
use Rattle.auth_events.specs.Tables.{number_of}
use Rattle.name_index.specs.NonceKeys.{nonce_cmp}
use Rattle.name_index.specs.Found.{checked}
use Rattle.name_index.proofs.Nonces.{is_asked_nonce, nonce_found}
use Rattle.name_index.proofs.index.NameIndex.nonce_number.Goals as goal

pub returns : goal.returns
returns c =
    let map = c.args.self.now.nonces in
    let names = c.args.names.now in
    let asked : Site × List ℕ = (c.args.site.now, c.args.text.now) in
    let read : c.copied-number.result ≡ get nonce_cmp map c.in_ok-key.key = grind (arith, common_steps) in
    let found : c.nonce_checked-number.result ≡ number_of (is_asked_nonce asked) names.nonces =
    c.nonce_checked-number.ensures
    ∙ (ap (checked (is_asked_nonce asked) names.nonces) read
    ∙ nonce_found map names c.in_ok-key.key asked c.requires.3 c.in_ok-key.ensures) in
    let next : c.nonces_len.result + 1 ≡ length names.nonces + 1 = ap (λ n. n + 1) c.nonces_len.ensures.len in
    c.unwrap_or.ensures ∙ ap₂ unwrap_or found next
