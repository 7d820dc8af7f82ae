-- Terms more.
use Rattle.std.proofs.Common.{◌≡◌, ℕ, cond, ◌++◌, ◌∷◌, [], ◌+◌, length, ap, sym, subst, ◌∙◌, arith, Some, Option, length-append}
use Rattle.spaces.specs.declared.terms.Terms.{Terms}
use Rattle.std.proofs.Math.Logic.{∥∥₁_elim, ∥∥₁_map}
use Rattle.std.specs.Coded.{le_prop}
use Rattle.std.specs.Prelude.{IsTrue, is_some}
use Rattle.spaces.specs.Sites.{numbered}
use Rattle.auth_events.specs.declared.told.NewName.{NewName}
use Rattle.auth_events.specs.declared.names.TermsName.{TermsName}
use Rattle.auth_events.specs.declared.told.NameKind.TheVariants.{Terms as OfTerms}
use Rattle.auth_events.specs.Tables.{Tables, terms_number, nonce_for, is_home, with_terms}
use Rattle.auth_events.specs.Told.{told_terms, MayNameTerms}
use Rattle.auth_events.specs.Ledgers.{told_of}
use Rattle.auth_events.proofs.Numbers.{numbered-last}
use Rattle.auth_events.proofs.Naming.{nonce_for-few}
use Rattle.auth_events.proofs.Once.{same_told_prop}
use Rattle.auth_events.proofs.RoomLemmas.{length-le-room}
use Rattle.auth_events.proofs.Keeping.{few_terms, kept_with_terms, told_with_terms}
use Rattle.auth_events.proofs.ledger.Ledger.name_terms.Goals as goal

pub overflow_cast-before : goal.overflow_cast-before
overflow_cast-before c =
    let l = c.args.self.now in
    omega (arith, ap length c.entries.ensures.entries, length-le-room l.journal.requests l.journal.entries c.entries.ensures.within, l.requests, l.few)

pub push_terms-requires-clause-few_nonces : goal.push_terms-requires-clause-few_nonces
push_terms-requires-clause-few_nonces c =
    let l = c.args.self.now in
    ∥∥₁_elim l.kept le_prop (λ kept. (
    let name : TermsName = record { space = c.args.space; terms = c.args.terms.now; nonce = nonce_for l.names c.args.space c.args.terms.now } in
    let few = few_terms l.roster l.names l.made.items l.journal.entries kept name c.requires.may c.requires.new in
    let small = nonce_for-few l.names c.args.space c.args.terms.now (length l.roster.requests) kept.within few.1 in
    omega (arith, small, c.requires.nonce, l.few)))

pub invariant_of-self-2 : goal.invariant_of-self-2
invariant_of-self-2 c =
    let l = c.args.self.now in
    let copied : c.in_ok-copy.copy ≡ c.args.terms.now = c.in_ok-copy.ensures in
    let one : TermsName = record { space = c.args.space; terms = c.in_ok-copy.copy; nonce = c.args.nonce } in
    let name : NewName = record { kind = OfTerms; number = c.terms_len-number.result; caller = c.args.caller; before = length c.entries.result.now } in
    record {
      few = l.few;
      requests = l.requests;
      kept = ∥∥₁_map l.kept (λ kept. kept_with_terms l.roster l.names l.made.items l.journal.entries c.push_terms.new.self c.push_reserved.new.self.items c.args.caller c.terms_len-number.result (length c.entries.result.now) one kept
          (subst (λ t. IsTrue (is_home l.names c.args.space t)) (sym copied) c.requires.home)
          (subst (MayNameTerms l.roster l.names c.args.space) (sym copied) c.requires.may)
          (ap (terms_number l.names c.args.space) copied ∙ c.requires.new)
          (c.requires.nonce ∙ sym (ap (nonce_for l.names c.args.space) copied))
          c.in_ok-push_terms.ensures.ok c.terms_len-number.ensures.len (ap length c.entries.ensures.entries)
          (c.push_reserved.ensures.items ∙ ap (λ made. made ++ name ∷ []) c.in_ok-reserve.ensures.items));
    }

pub returns-clause-number : goal.returns-clause-number
returns-clause-number c =
    let l = c.args.self.now in
    let one : TermsName = record { space = c.args.space; terms = c.in_ok-copy.copy; nonce = c.args.nonce } in
    let named : Terms → Option TermsName = λ t. Some (record { space = c.args.space; terms = t; nonce = c.args.nonce }) in
    let terms = ap (λ (t : Tables). t.terms) c.in_ok-push_terms.ensures.ok in
    let last : c.terms_len-number.result ≡ length l.names.terms + 1 = c.terms_len-number.ensures.len ∙ (ap length terms ∙ length-append l.names.terms (one ∷ [])) in
    ap (λ xs. numbered xs c.terms_len-number.result) terms
    ∙ (ap (numbered (l.names.terms ++ one ∷ [])) last
    ∙ (numbered-last l.names.terms one ∙ ap named c.in_ok-copy.ensures))

pub returns-clause-told : goal.returns-clause-told
returns-clause-told c =
    let l = c.args.self.now in
    let copied : c.in_ok-copy.copy ≡ c.args.terms.now = c.in_ok-copy.ensures in
    let one : TermsName = record { space = c.args.space; terms = c.in_ok-copy.copy; nonce = c.args.nonce } in
    let name : NewName = record { kind = OfTerms; number = c.terms_len-number.result; caller = c.args.caller; before = length c.entries.result.now } in
    ∥∥₁_elim l.kept (same_told_prop _ _) (λ kept. told_with_terms l.roster l.names l.made.items l.journal.entries c.push_terms.new.self c.push_reserved.new.self.items c.args.caller c.terms_len-number.result (length c.entries.result.now) one kept
    (ap (terms_number l.names c.args.space) copied ∙ c.requires.new)
    (c.requires.nonce ∙ sym (ap (nonce_for l.names c.args.space) copied))
    c.in_ok-push_terms.ensures.ok c.terms_len-number.ensures.len (ap length c.entries.ensures.entries)
    (c.push_reserved.ensures.items ∙ ap (λ made. made ++ name ∷ []) c.in_ok-reserve.ensures.items)
    ∙ ap (told_terms c.args.caller l.names (told_of l.names l.made.items l.journal.entries) c.args.space) copied)

pub returns-clause-named : goal.returns-clause-named
returns-clause-named c =
    let l = c.args.self.now in
    let one : Terms → ℕ → TermsName = λ t n. record { space = c.args.space; terms = t; nonce = n } in
    let named : TermsName = record { space = c.args.space; terms = c.args.terms.now; nonce = nonce_for l.names c.args.space c.args.terms.now } in
    c.in_ok-push_terms.ensures.ok
    ∙ (ap (λ t. with_terms l.names (one t c.args.nonce)) c.in_ok-copy.ensures
    ∙ (ap (λ n. with_terms l.names (one c.args.terms.now n)) c.requires.nonce
    ∙ sym (ap (λ (o : Option ℕ). cond (is_some o) l.names (with_terms l.names named)) c.requires.new)))
