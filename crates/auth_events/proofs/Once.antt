-- What a book keeps has one proof at most.
use Rattle.std.proofs.Common.{◌≡◌, ℕ}
use Rattle.std.specs.Prelude.{List, [], ◌∷◌, IsTrue, Option, Some, length}
use Rattle.std.specs.Coded.{×_prop, Unit-prop, Coded, Coded-set, codes}
use Rattle.std.proofs.Props.{props}
use Rattle.spaces.specs.ProtectionSpaces.{ProtectionSpace, has_realm}
use Rattle.spaces.specs.Sites.{numbered}
use Rattle.spaces.specs.declared.roster.Roster.{Roster}
use Rattle.auth_events.specs.declared.journal.Entry.{Entry}
use Rattle.auth_events.specs.declared.told.Told.{Told}
use Rattle.auth_events.specs.declared.names.TermsName.{TermsName}
use Rattle.auth_events.specs.declared.names.NonceName.{NonceName}
use Rattle.auth_events.specs.Tables.{Tables, AreNames, AreAtHome, AreFew, IsNumberedOnce, greatest, nonce_numbers, nonce_named, is_home, is_rising}
use Rattle.auth_events.specs.Book.{IsStep, IsLegalPast}

IsStep-prop : (roster : Roster) (names : Tables) (past : List Entry) (entry : Entry) → IsProp (IsStep roster names past entry)
IsStep-prop roster names past entry = Prim.hlevel (props, codes, Coded-set)

pub IsLegalPast-prop : (roster : Roster) (names : Tables) (past : List Entry) → IsProp (IsLegalPast roster names past)
IsLegalPast-prop roster names [] = Unit-prop
IsLegalPast-prop roster names (entry ∷ past) = ×_prop (IsLegalPast-prop roster names past) (IsStep-prop roster names past entry)

code_of_names : Coded Tables
code_of_names = Prim.hlevel codes

-- two names that are equal are so in one way
pub same_names_prop : (a b : Tables) → IsProp (a ≡ b)
same_names_prop = Coded-set code_of_names

code_of_nonce : Coded (Option NonceName)
code_of_nonce = Prim.hlevel codes

AreAtHome-prop : (names : Tables) (name : TermsName) → IsProp (AreAtHome names name)
AreAtHome-prop names name x y =
    let home_prop : IsProp (IsTrue (is_home names name.space name.terms)) = Prim.hlevel props in
    λ i. record {
      home = home_prop x.home y.home i;
      nonce = Coded-set code_of_nonce (numbered names.nonces name.nonce) (nonce_named names name) x.nonce y.nonce i;
    }

pub AreNames-prop : (names : Tables) → IsProp (AreNames names)
AreNames-prop names x y =
    let spaces_prop : IsProp (IsNumberedOnce names.spaces) = Prim.hlevel props in
    let terms_prop : IsProp ((a b : TermsName) (i j : ℕ) → numbered names.terms i ≡ Some a → numbered names.terms j ≡ Some b → a.space ≡ b.space → a.terms ≡ b.terms → i ≡ j) = Prim.hlevel props in
    let home_prop : IsProp ((name : TermsName) (i : ℕ) → numbered names.terms i ≡ Some name → AreAtHome names name) = Prim.hlevel (props, AreAtHome-prop) in
    let nonces_prop : IsProp (IsNumberedOnce names.nonces) = Prim.hlevel props in
    let rising_prop : IsProp (IsTrue (is_rising (nonce_numbers names.terms))) = Prim.hlevel props in
    let realms_prop : IsProp ((space : ProtectionSpace) (i : ℕ) → numbered names.spaces i ≡ Some space → IsTrue (has_realm space.scheme space.realm)) = Prim.hlevel props in
    let used_prop : IsProp (greatest (nonce_numbers names.terms) ≡ length names.nonces) = Prim.hlevel props in
    λ i. record {
      spaces = spaces_prop x.spaces y.spaces i;
      terms = terms_prop x.terms y.terms i;
      home = home_prop x.home y.home i;
      nonces = nonces_prop x.nonces y.nonces i;
      rising = rising_prop x.rising y.rising i;
      used = used_prop x.used y.used i;
      realms = realms_prop x.realms y.realms i;
    }

pub AreFew-prop : (n : ℕ) (names : Tables) → IsProp (AreFew n names)
AreFew-prop n names = Prim.hlevel props

code_of_told : Coded (List Told)
code_of_told = Prim.hlevel codes

-- two told lists that are equal are so in one way
pub same_told_prop : (a b : List Told) → IsProp (a ≡ b)
same_told_prop = Coded-set code_of_told
