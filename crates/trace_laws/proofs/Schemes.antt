-- What the replies of a book say of schemes and prompts.
use Rattle.std.proofs.Common.{◌≡◌, ℕ, ◌+◌, Bool, true, false, ◌&&◌, ◌||◌, ◌==◌, IsTrue, List, [], ◌∷◌, Option, Some, None, option_map, unwrap_or, refl, sym, ap, ◌∙◌, subst, arith}
use Rattle.std.specs.List.{list_any}
use Rattle.std.proofs.lemmas.Bool.{false≢true}
use Rattle.std.proofs.lemmas.Bool.Decides.{nat_tests}
use Rattle.spaces.specs.declared.site.Target.{Target}
use Rattle.spaces.specs.declared.site.Target.TheVariants.{Server, Proxy, Socks}
use Rattle.spaces.specs.declared.space.Scheme.{Scheme}
use Rattle.spaces.specs.declared.space.Scheme.TheVariants.{Basic, Digest, Negotiate, Password}
use Rattle.spaces.specs.ProtectionSpaces.{ProtectionSpace}
use Rattle.spaces.specs.Sites.{same_scheme, same_target}
use Rattle.auth_events.specs.declared.journal.Gift.{Gift}
use Rattle.auth_events.specs.declared.journal.Loss.{Loss}
use Rattle.auth_events.specs.declared.journal.Loss.TheVariants.{Fault, Memory}
use Rattle.auth_events.specs.declared.journal.Call.{Call}
use Rattle.auth_events.specs.declared.journal.Call.TheVariants.{Answer, Take}
use Rattle.auth_events.specs.declared.journal.BookReply.{BookReply}
use Rattle.auth_events.specs.declared.journal.BookReply.TheVariants.{Default, Given}
use Rattle.auth_events.specs.declared.journal.Entry.{Entry}
use Rattle.auth_events.specs.Past.{prompt_followed, selects}
use Rattle.auth_events.specs.Book.{first_choice, is_basic, is_default, is_digest, is_negotiate, select_answer, takes}
use Rattle.auth_events.proofs.Numbers.{and_right}
use Rattle.auth_events.proofs.Same.{number_refl, number_same}
use Rattle.trace_rule.specs.Entries.{Made}
use Rattle.trace_rule.specs.Traces.{same_loss}
use Rattle.trace_rule.proofs.Stages.{AllDone}

-- SCHEMES

pub digest_named : (o : Option ProtectionSpace) → IsTrue (unwrap_or (option_map (λ (k : ProtectionSpace). same_scheme k.scheme Digest) o) false) → IsTrue (unwrap_or (option_map (λ (k : ProtectionSpace). is_digest k.scheme) o) false)
digest_named None h = absurd (false≢true h)
digest_named (Some space) h = at space.scheme h
  where
    at : (scheme : Scheme) → IsTrue (same_scheme scheme Digest) → IsTrue (is_digest scheme)
    at Digest h = refl
    at Basic h = absurd (false≢true h)
    at Negotiate h = absurd (false≢true h)
    at Password h = absurd (false≢true h)

pub negotiate_named : (o : Option ProtectionSpace) → IsTrue (unwrap_or (option_map (λ (k : ProtectionSpace). is_negotiate k.scheme) o) false) → IsTrue (unwrap_or (option_map (λ (k : ProtectionSpace). same_scheme k.scheme Negotiate) o) false)
negotiate_named None h = absurd (false≢true h)
negotiate_named (Some space) h = at space.scheme h
  where
    at : (scheme : Scheme) → IsTrue (is_negotiate scheme) → IsTrue (same_scheme scheme Negotiate)
    at Negotiate h = refl
    at Basic h = absurd (false≢true h)
    at Digest h = absurd (false≢true h)
    at Password h = absurd (false≢true h)

pub path_named : (o : Option ProtectionSpace) → IsTrue (unwrap_or (option_map (λ (k : ProtectionSpace). is_basic k.scheme) o) false || unwrap_or (option_map (λ (k : ProtectionSpace). is_digest k.scheme) o) false)
    → IsTrue (unwrap_or (option_map (λ (k : ProtectionSpace). same_scheme k.scheme Basic) o) false || unwrap_or (option_map (λ (k : ProtectionSpace). same_scheme k.scheme Digest) o) false)
path_named None h = absurd (false≢true h)
path_named (Some space) h = at space.scheme h
  where
    at : (scheme : Scheme) → IsTrue (is_basic scheme || is_digest scheme) → IsTrue (same_scheme scheme Basic || same_scheme scheme Digest)
    at Basic h = refl
    at Digest h = refl
    at Negotiate h = absurd (false≢true h)
    at Password h = absurd (false≢true h)

pub same_self : (t : Target) → IsTrue (same_target t t)
same_self Server = refl
same_self Proxy = refl
same_self Socks = refl

pub own_loss : (loss : Loss) → IsTrue (same_loss loss loss)
own_loss (Fault count) = number_refl count
own_loss Memory = refl

pub not_zero : (n : ℕ) → (n + 1 == 0) ≡ false
not_zero n = grind (arith, nat_tests)

-- a default identity is answered in a Negotiate space alone
pub default_ambient : (rival : ℕ → Bool) (past : List Entry) (s : ℕ) (url : Bool) (held : Option Gift) (ambient : Bool) (led : Option Entry) → Default ≡ select_answer rival past s (first_choice url held ambient led) → IsTrue ambient
default_ambient rival past s true held ambient led is = absurd (false≢true (sym (ap is_default is)))
default_ambient rival past s false (Some gift) ambient led is = absurd (false≢true (sym (ap is_default is)))
default_ambient rival past s false None true led is = refl
default_ambient rival past s false None false (Some entry) is = absurd (false≢true (sym (ap is_default is)))
default_ambient rival past s false None false None is = absurd (false≢true (sym (ap is_default is)))

abbrev pub is_given : BookReply → Bool
is_given (Given gift evicts) = true
is_given _ = false

abbrev pub is_text : Call → Bool
is_text (Answer prompt text terms) = true
is_text _ = false

abbrev pub text_in : Call → ℕ
text_in (Answer prompt text terms) = text
text_in _ = 0

abbrev pub is_take : Call → Bool
is_take (Take prompt) = true
is_take _ = false

abbrev pub prompt_in : Call → ℕ
prompt_in (Take prompt) = prompt
prompt_in _ = 0

-- what was followed was taken
pub followed_taken : (s p : ℕ) (xs ms : List Made) → AllDone xs ms → (p == 0) ≡ false → IsTrue (list_any (λ x. selects x.call s && (prompt_followed x.reply == p)) ms) → IsTrue (list_any (λ x. takes x.call p) xs)
followed_taken s p xs [] done some h = absurd (false≢true h)
followed_taken s p xs (m ∷ ms) done some h = at (selects m.call s && (prompt_followed m.reply == p)) refl h (followed_taken s p xs ms done.1 some)
  where
    at : (b : Bool) → (selects m.call s && (prompt_followed m.reply == p)) ≡ b → IsTrue (b || list_any (λ x. selects x.call s && (prompt_followed x.reply == p)) ms)
        → (IsTrue (list_any (λ x. selects x.call s && (prompt_followed x.reply == p)) ms) → IsTrue (list_any (λ x. takes x.call p) xs)) → IsTrue (list_any (λ x. takes x.call p) xs)
    at true here h' before =
        let same : prompt_followed m.reply ≡ p = number_same (prompt_followed m.reply) p (and_right (selects m.call s) (prompt_followed m.reply == p) here) in
        subst (λ q. IsTrue (list_any (λ x. takes x.call q) xs)) same (done.0.1 (ap (λ q. q == 0) same ∙ some))
    at false other h' before = before h'
