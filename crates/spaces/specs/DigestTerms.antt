-- When two terms of Digest are the same.
use Rattle.std.specs.Prelude.{ℕ, Bool, true, false, ◌&&◌, List, bytes_eq}
use Rattle.std.specs.declared.option.Option.{Option}
use Rattle.std.specs.Prelude.{Some, None}
use Rattle.spaces.specs.declared.terms.Algorithm.{Algorithm}
use Rattle.spaces.specs.declared.terms.Algorithm.TheVariants.{Md5, Sha256}
use Rattle.spaces.specs.declared.terms.Qop.{Qop}
use Rattle.spaces.specs.declared.terms.Qop.TheVariants.{Auth, Missing}
use Rattle.spaces.specs.declared.terms.Terms.{Terms}

abbrev pub same_algorithm : Algorithm → Algorithm → Bool
same_algorithm Md5 Md5 = true
same_algorithm Sha256 Sha256 = true
same_algorithm _ _ = false

abbrev pub same_qop : Qop → Qop → Bool
same_qop Auth Auth = true
same_qop Missing Missing = true
same_qop _ _ = false

abbrev pub same_flag : Bool → Bool → Bool
same_flag true true = true
same_flag false false = true
same_flag _ _ = false

abbrev pub same_opaque : Option (List ℕ) → Option (List ℕ) → Bool
same_opaque None None = true
same_opaque (Some a) (Some b) = bytes_eq a b
same_opaque _ _ = false

-- all parts are the same: also whether the algorithm was said, and whether user names are hashed
abbrev pub same_terms : Terms → Terms → Bool
same_terms a b =
    same_algorithm a.algorithm b.algorithm && same_flag a.said b.said
    && bytes_eq a.realm b.realm && bytes_eq a.nonce b.nonce
    && same_opaque a.opaque b.opaque && same_qop a.qop b.qop && same_flag a.userhash b.userhash
