-- A head has one answer, whatever may be found of it.
use Rattle.std.proofs.Common.{◌≡◌, ℕ, ◌+◌, List, Option, Some, None, option_map, slice_get, refl, sym, ap, subst, ◌∙◌}
use Rattle.auth_text.specs.Login.{Login}
use Rattle.link_trait.specs.declared.links.LinkName.{LinkName}
use Rattle.spaces.specs.declared.place.Origin.{Origin}
use Rattle.spaces.specs.declared.terms.Algorithm.{Algorithm}
use Rattle.wire_head.specs.declared.head_reader.ReadHead.{ReadHead}
use Rattle.wire_head.proofs.HeadBackLemmas.{one_head}
use Rattle.origin_sim.specs.declared.judged.Judged.{Judged}
use Rattle.origin_sim.specs.declared.judged.Said.{Said}
use Rattle.origin_sim.specs.declared.judged.Use.{Use}
use Rattle.origin_sim.specs.declared.named.Named.{Named}
use Rattle.origin_sim.specs.declared.rules.Kind.{Kind}
use Rattle.origin_sim.specs.declared.rules.Kind.TheVariants.{Open, Basic, Digest, Negotiate}
use Rattle.origin_sim.specs.declared.rules.Rule.{Rule}
use Rattle.origin_sim.specs.Judging.{IsUse, IsSaid, digest_said, challenge}
use Rattle.origin_sim.specs.Worlds.{WorldState, heard, IsJudged, server_reply, IsServedAt, IsHandedOn, IsProxied, IsRead, IsReplyTo, IsAnswer, rule_of}
use Rattle.spaces.specs.declared.site.Target.TheVariants.{Server, Proxy}
use Rattle.origin_sim.proofs.UseLemmas.{read_again}

use_named : Named → Use
use_named n = record { nonce = n.nonce; count = n.count }

one_use : (realm : List ℕ) (algorithm : Algorithm) (l : Login) (head : ReadHead) (credentials : Option (List ℕ)) (a b : Option Use)
    → IsUse realm algorithm l head credentials a → IsUse realm algorithm l head credentials b → a ≡ b
unfolding use_named
one_use realm algorithm l head credentials None None is_a is_b = refl
one_use realm algorithm l head credentials None (Some b) is_a is_b = absurd (is_a is_b.0 b.nonce b.count is_b.1 is_b.2)
one_use realm algorithm l head credentials (Some a) None is_a is_b = absurd (is_b is_a.0 a.nonce a.count is_a.1 is_a.2)
one_use realm algorithm l head None (Some a) (Some b) is_a is_b = cc is_a.2.1
one_use realm algorithm l head (Some credentials) (Some a) (Some b) is_a is_b =
    let n : Named = record { nonce = a.nonce; count = a.count; cnonce = is_a.2.0 } in
    let m : Named = record { nonce = b.nonce; count = b.count; cnonce = is_b.2.0 } in
    ap (option_map use_named) (sym (read_again realm algorithm l head credentials n is_a.1 is_a.2.1) ∙ read_again realm algorithm l head credentials m is_b.1 is_b.2.1)

one_said : (world rule : ℕ) (kind : Kind) (past : List Judged) (link : LinkName) (head : ReadHead) (credentials : Option (List ℕ)) (a b : Said)
    → IsSaid world rule kind past link head credentials a → IsSaid world rule kind past link head credentials b → a ≡ b
one_said world rule Open past link head credentials a b is_a is_b = is_a ∙ sym is_b
one_said world rule (Basic realm user password) past link head credentials a b is_a is_b = is_a ∙ sym is_b
one_said world rule (Digest realm user password algorithm bound) past link head credentials a b is_a is_b =
    is_a.2 ∙ ap (λ (it : Option Use). digest_said world rule bound it past)
    (one_use realm algorithm (record { user = user; password = password }) head credentials is_a.0 is_b.0 is_a.1 is_b.1) ∙ sym is_b.2
one_said world rule (Negotiate first reply second) past link head credentials a b is_a is_b = is_a ∙ sym is_b

one_judged : (old : WorldState) (rule : Option Rule) (place : ℕ) (link : LinkName) (head : ReadHead) (credentials a b : Option (List ℕ)) (m n : WorldState)
    → IsJudged old rule place link head credentials a m → IsJudged old rule place link head credentials b n → (a ≡ b) × (m ≡ n)
one_judged old None place link head credentials a b m n is_a is_b = absurd is_a
one_judged old (Some rule) place link head credentials a b m n is_a is_b =
    let same : is_a.0 ≡ is_b.0 = one_said old.number (place + 1) rule.kind old.past link head credentials is_a.0 is_b.0 is_a.1 is_b.1 in
    (is_a.2 ∙ ap (challenge rule.kind) same ∙ sym is_b.2, is_a.3 ∙ ap (heard old (place + 1) link) same ∙ sym is_b.3)

one_served : (old : WorldState) (place : Option ℕ) (link : LinkName) (head : ReadHead) (r s : List ℕ) (m n : WorldState)
    → IsServedAt old place link head r m → IsServedAt old place link head s n → (r ≡ s) × (m ≡ n)
one_served old None link head r s m n is_r is_s = (is_r.0 ∙ sym is_s.0, is_r.1 ∙ sym is_s.1)
one_served old (Some place) link head r s m n is_r is_s =
    let same = one_judged old (slice_get old.rules place) place link head head.server is_r.0 is_s.0 m n is_r.1 is_s.1 in
    (is_r.2 ∙ ap (server_reply head) same.0 ∙ sym is_s.2, same.1)

one_handed : (answer : Option (List ℕ)) (old : WorldState) (link : LinkName) (head : ReadHead) (r s : List ℕ) (m n : WorldState)
    → IsHandedOn answer old link head r m → IsHandedOn answer old link head s n → (r ≡ s) × (m ≡ n)
one_handed (Some text) old link head r s m n is_r is_s = (is_r.0 ∙ sym is_s.0, is_r.1 ∙ sym is_s.1)
one_handed None old link head r s m n is_r is_s = one_served old (rule_of Server head.origin old.rules) link head r s m n is_r is_s

one_proxied : (old : WorldState) (place : Option ℕ) (link : LinkName) (head : ReadHead) (r s : List ℕ) (m n : WorldState)
    → IsProxied old place link head r m → IsProxied old place link head s n → (r ≡ s) × (m ≡ n)
one_proxied old None link head r s m n is_r is_s = one_served old (rule_of Server head.origin old.rules) link head r s m n is_r is_s
one_proxied old (Some place) link head r s m n is_r is_s =
    let same = one_judged old (slice_get old.rules place) place link head head.proxy is_r.0 is_s.0 is_r.1 is_s.1 is_r.2 is_s.2 in
    let moved : IsHandedOn is_r.0 is_s.1 link head s n = subst (λ (answer : Option (List ℕ)). IsHandedOn answer is_s.1 link head s n) (sym same.0) is_s.3 in
    one_handed is_r.0 is_r.1 link head r s m n is_r.3 (subst (λ (world : WorldState). IsHandedOn is_r.0 world link head s n) (sym same.1) moved)

one_reading : (bytes : List ℕ) (a b : Option ReadHead) → IsRead bytes a → IsRead bytes b → a ≡ b
one_reading bytes None None is_a is_b = refl
one_reading bytes None (Some b) is_a is_b = absurd (is_a b is_b)
one_reading bytes (Some a) None is_a is_b = absurd (is_b a is_a)
one_reading bytes (Some a) (Some b) is_a is_b = ap Some (one_head bytes a b is_a is_b)

one_reply : (old : WorldState) (link : LinkName) (to : Origin) (head : Option ReadHead) (r s : List ℕ) (m n : WorldState)
    → IsReplyTo old link to head r m → IsReplyTo old link to head s n → (r ≡ s) × (m ≡ n)
one_reply old link to None r s m n is_r is_s = (is_r.0 ∙ sym is_s.0, is_r.1 ∙ sym is_s.1)
one_reply old link to (Some head) r s m n is_r is_s = one_proxied old (rule_of Proxy to old.rules) link head r s m n is_r is_s

-- so the world behind a head, and the reply, are fixed by the world before it
pub one_answer : (old : WorldState) (link : LinkName) (to : Origin) (bytes r s : List ℕ) (m n : WorldState)
    → IsAnswer old link to bytes r m → IsAnswer old link to bytes s n → (r ≡ s) × (m ≡ n)
one_answer old link to bytes r s m n is_r is_s =
    let same : is_s.0 ≡ is_r.0 = one_reading bytes is_s.0 is_r.0 is_s.1 is_r.1 in
    one_reply old link to is_r.0 r s m n is_r.2 (subst (λ (head : Option ReadHead). IsReplyTo old link to head s n) same is_s.2)
