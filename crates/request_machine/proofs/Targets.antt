-- Targets of spaces.
use Rattle.std.proofs.Common.{◌≡◌, ℕ, Bool, true, false, ◌&&◌, ◌==◌, arith, Option, Some, None, refl, IsTrue, unwrap_or, option_map}
use Rattle.std.proofs.lemmas.Bool.{false≢true}
use Rattle.spaces.specs.declared.site.Target.{Target}
use Rattle.spaces.specs.declared.site.Target.TheVariants.{Server, Proxy, Socks}
use Rattle.spaces.specs.ProtectionSpaces.{ProtectionSpace}
use Rattle.spaces.specs.Sites.{same_target}
use Rattle.auth_events.specs.declared.journal.Gift.{Gift}
use Rattle.auth_events.specs.declared.journal.BookReply.TheVariants.{Ready}
use Rattle.trace_rule.specs.Settings.{Setting, target_is, is_by_path, knows_gift, knows_terms}
use Rattle.trace_rule.specs.Traces.{ready_agrees, may_hold}

swapped : (a t x : Target) → same_target a t ≡ true → same_target a x ≡ same_target x t
swapped Server Server Server e = refl
swapped Server Server Proxy e = refl
swapped Server Server Socks e = refl
swapped Server Proxy Server e = absurd (false≢true e)
swapped Server Proxy Proxy e = absurd (false≢true e)
swapped Server Proxy Socks e = absurd (false≢true e)
swapped Server Socks Server e = absurd (false≢true e)
swapped Server Socks Proxy e = absurd (false≢true e)
swapped Server Socks Socks e = absurd (false≢true e)
swapped Proxy Server Server e = absurd (false≢true e)
swapped Proxy Server Proxy e = absurd (false≢true e)
swapped Proxy Server Socks e = absurd (false≢true e)
swapped Proxy Proxy Server e = refl
swapped Proxy Proxy Proxy e = refl
swapped Proxy Proxy Socks e = refl
swapped Proxy Socks Server e = absurd (false≢true e)
swapped Proxy Socks Proxy e = absurd (false≢true e)
swapped Proxy Socks Socks e = absurd (false≢true e)
swapped Socks Server Server e = absurd (false≢true e)
swapped Socks Server Proxy e = absurd (false≢true e)
swapped Socks Server Socks e = absurd (false≢true e)
swapped Socks Proxy Server e = absurd (false≢true e)
swapped Socks Proxy Proxy e = absurd (false≢true e)
swapped Socks Proxy Socks e = absurd (false≢true e)
swapped Socks Socks Server e = refl
swapped Socks Socks Proxy e = refl
swapped Socks Socks Socks e = refl

-- a space that is of the target is of no other
pub only_target : (s : Setting) (n : ℕ) (t : Target) → target_is s n t ≡ true → (x : Target) → target_is s n x ≡ same_target x t
only_target s n t is x = at (s.space_of n) is
  where
    at : (o : Option ProtectionSpace) → unwrap_or (option_map (λ named. same_target named.site.target t) o) false ≡ true → unwrap_or (option_map (λ named. same_target named.site.target x) o) false ≡ same_target x t
    at None e = absurd (false≢true e)
    at (Some named) e = swapped named.site.target t x e

first_of : (a b : Bool) → (a && b) ≡ true → a ≡ true
first_of true b e = refl
first_of false b e = absurd (false≢true e)

-- the space of a gift that is ready is of the target
pub ready_target : (s : Setting) (t : Target) (gift : Gift) (terms epoch : ℕ) → IsTrue (ready_agrees s t (Ready gift terms epoch)) → (x : Target) → target_is s gift.space x ≡ same_target x t
ready_target s t gift terms epoch may =
    only_target s gift.space t (first_of (target_is s gift.space t) (is_by_path s gift.space) (first_of (target_is s gift.space t && is_by_path s gift.space) (may_hold s gift gift.space terms) may))

pub swapped_back : (x t y : Target) → same_target x t ≡ true → same_target y t ≡ same_target y x
swapped_back Server Server Server e = refl
swapped_back Server Server Proxy e = refl
swapped_back Server Server Socks e = refl
swapped_back Server Proxy Server e = absurd (false≢true e)
swapped_back Server Proxy Proxy e = absurd (false≢true e)
swapped_back Server Proxy Socks e = absurd (false≢true e)
swapped_back Server Socks Server e = absurd (false≢true e)
swapped_back Server Socks Proxy e = absurd (false≢true e)
swapped_back Server Socks Socks e = absurd (false≢true e)
swapped_back Proxy Server Server e = absurd (false≢true e)
swapped_back Proxy Server Proxy e = absurd (false≢true e)
swapped_back Proxy Server Socks e = absurd (false≢true e)
swapped_back Proxy Proxy Server e = refl
swapped_back Proxy Proxy Proxy e = refl
swapped_back Proxy Proxy Socks e = refl
swapped_back Proxy Socks Server e = absurd (false≢true e)
swapped_back Proxy Socks Proxy e = absurd (false≢true e)
swapped_back Proxy Socks Socks e = absurd (false≢true e)
swapped_back Socks Server Server e = absurd (false≢true e)
swapped_back Socks Server Proxy e = absurd (false≢true e)
swapped_back Socks Server Socks e = absurd (false≢true e)
swapped_back Socks Proxy Server e = absurd (false≢true e)
swapped_back Socks Proxy Proxy e = absurd (false≢true e)
swapped_back Socks Proxy Socks e = absurd (false≢true e)
swapped_back Socks Socks Server e = refl
swapped_back Socks Socks Proxy e = refl
swapped_back Socks Socks Socks e = refl

-- a gift that can be held in a space is of the space
pub held_space : (s : Setting) (gift : Gift) (n k : ℕ) → IsTrue (may_hold s gift n k) → gift.space ≡ n
held_space s gift n k may =
    let e : (gift.space == n) ≡ true = first_of (gift.space == n) (knows_gift s gift) (first_of ((gift.space == n) && knows_gift s gift) (knows_terms s n k) may) in
    grind (arith, e)
