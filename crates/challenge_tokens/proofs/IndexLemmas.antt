-- A set of names beside parameters: one more name, and one more parameter.
use Rattle.std.proofs.Common.{◌≡◌, ℕ, ◌+◌, ◌<◌, Bool, true, false, cond, ◌||◌, List, [], ◌∷◌, ◌++◌, length, take, get_or, refl, sym, ap, ◌∙◌, bytes_eq}
use Rattle.std.specs.List.{list_any}
use Rattle.std.specs.Ordering.{nat_cmp, is_eq, match_ordering}
use Rattle.std.specs.declared.cmp.Ordering.{Ordering}
use Rattle.std.specs.declared.cmp.Ordering.TheVariants.{Less, Equal, Greater}
use Rattle.std.specs.Cmp.Lexicographic.{slice_cmp}
use Rattle.std.specs.BTreeSet.{BTreeSet, insert_key}
use Rattle.std.specs.Global.{Vec}
use Rattle.std.proofs.lemmas.List.{take_more}
use Rattle.std.proofs.lemmas.Map.Text.{is_eq-slice_cmp}
use Rattle.std.proofs.lemmas.Slice.Eq.{bytes_eq-Decides}
use Rattle.challenge_tokens.specs.declared.params.Param.{Param}
use Rattle.challenge_tokens.specs.Names.{has_name}
use Rattle.challenge_tokens.specs.Indexes.{has_key, IsIndexOf}
use Rattle.challenge_tokens.specs.Pieces.{join}
use Rattle.challenge_tokens.proofs.NameLemmas.{eq_sym}

or_swap : (a b c : Bool) → (a || (b || c)) ≡ (b || (a || c))
or_swap true true c = refl
or_swap true false c = refl
or_swap false b c = refl

or_same : (a b : Bool) → (a || b) ≡ (a || (a || b))
or_same true b = refl
or_same false b = refl

-- the key has this name
abbrev is_at : List ℕ → Vec ℕ → Bool
is_at name key = is_eq (slice_cmp nat_cmp name key.items)

abbrev key_cmp : Vec ℕ → Vec ℕ → Ordering
key_cmp a b = slice_cmp nat_cmp a.items b.items

same_key : (name : List ℕ) (a b : Vec ℕ) → key_cmp a b ≡ Equal → is_at name a ≡ is_at name b
same_key name a b is =
    let same = (bytes_eq-Decides a.items b.items).0 (sym (is_eq-slice_cmp a.items b.items) ∙ ap is_eq is) in
    ap (λ x. is_eq (slice_cmp nat_cmp name x)) same

by_order : (name : List ℕ) (key k : Vec ℕ) (ks : List (Vec ℕ)) (o : Ordering) → key_cmp key k ≡ o
    → list_any (is_at name) (insert_key key_cmp ks key) ≡ (is_at name key || list_any (is_at name) ks)
    → list_any (is_at name) (match_ordering o (key ∷ k ∷ ks) (k ∷ ks) (k ∷ insert_key key_cmp ks key))
    ≡ (is_at name key || (is_at name k || list_any (is_at name) ks))
by_order name key k ks Less is more = refl
by_order name key k ks Equal is more =
    or_same (is_at name k) (list_any (is_at name) ks) ∙ ap (λ t. t || (is_at name k || list_any (is_at name) ks)) (sym (same_key name key k is))
by_order name key k ks Greater is more =
    ap (λ t. is_at name k || t) more ∙ or_swap (is_at name k) (is_at name key) (list_any (is_at name) ks)

with_key : (name : List ℕ) (ks : List (Vec ℕ)) (key : Vec ℕ)
    → list_any (is_at name) (insert_key key_cmp ks key) ≡ (is_at name key || list_any (is_at name) ks)
with_key name [] key = refl
with_key name (k ∷ ks) key = by_order name key k ks (key_cmp key k) refl (with_key name ks key)

-- a name put into a set
pub name_inserted : (old new : BTreeSet (Vec ℕ)) (key : Vec ℕ) (text : List ℕ) → key.items ≡ text
    → new.keys ≡ insert_key key_cmp old.keys key → (name : List ℕ) → has_key name new ≡ (bytes_eq name text || has_key name old)
name_inserted old new key text is keys name =
    ap (list_any (is_at name)) keys ∙ with_key name old.keys key
    ∙ ap (λ t. t || has_key name old) (is_eq-slice_cmp name key.items ∙ ap (bytes_eq name) is)

has_name-behind : (name : List ℕ) (ps : List Param) (p : Param) → has_name name (ps ++ p ∷ []) ≡ (bytes_eq name p.name || has_name name ps)
has_name-behind name [] p = ap (λ t. t || false) (eq_sym p.name name)
has_name-behind name (q ∷ ps) p =
    ap (λ t. bytes_eq q.name name || t) (has_name-behind name ps p)
    ∙ or_swap (bytes_eq q.name name) (bytes_eq name p.name) (has_name name ps)

-- a name that the parameters have adds none
known_name : (name known : List ℕ) (ps : List Param) (t : Bool) → bytes_eq name known ≡ t → has_name known ps ≡ true
    → (t || has_name name ps) ≡ has_name name ps
known_name name known ps false e has = refl
known_name name known ps true e has = sym (ap (λ x. has_name x ps) ((bytes_eq-Decides name known).0 e) ∙ has)

-- a parameter behind those of a set
pub index_with : (old new : BTreeSet (Vec ℕ)) (ps : List Param) (p : Param) (text : List ℕ) → text ≡ p.name → IsIndexOf old ps
    → ((name : List ℕ) → has_key name new ≡ (bytes_eq name text || has_key name old)) → IsIndexOf new (ps ++ p ∷ [])
index_with old new ps p text is index more name =
    more name ∙ ap (λ t. bytes_eq name t || has_key name old) is ∙ ap (λ t. bytes_eq name p.name || t) (index name) ∙ sym (has_name-behind name ps p)

joined_by : (old new : BTreeSet (Vec ℕ)) (ps : List Param) (p : Param) (t : Bool) → has_name p.name ps ≡ t → IsIndexOf old ps
    → ((name : List ℕ) → has_key name new ≡ (bytes_eq name p.name || has_key name old)) → IsIndexOf new (cond t ps (ps ++ p ∷ []))
joined_by old new ps p false is index more name = index_with old new ps p p.name refl index more name
joined_by old new ps p true is index more name =
    more name ∙ ap (λ u. bytes_eq name p.name || u) (index name) ∙ known_name name p.name ps (bytes_eq name p.name) refl is

-- a parameter that joins those of a set
pub index_joined : (old new : BTreeSet (Vec ℕ)) (ps : List Param) (p : Param) (text : List ℕ) → text ≡ p.name → IsIndexOf old ps
    → ((name : List ℕ) → has_key name new ≡ (bytes_eq name text || has_key name old)) → IsIndexOf new (join ps p)
index_joined old new ps p text is index more =
    joined_by old new ps p (has_name p.name ps) refl index (λ name. more name ∙ ap (λ t. bytes_eq name t || has_key name old) is)

-- the parameter at a place behind those before it
pub index_more : (old new : BTreeSet (Vec ℕ)) (ps : List Param) (i : ℕ) (p : Param) (text : List ℕ) → i < length ps → p ≡ get_or ps i p
    → text ≡ p.name → IsIndexOf old (take i ps)
    → ((name : List ℕ) → has_key name new ≡ (bytes_eq name text || has_key name old)) → IsIndexOf new (take (i + 1) ps)
index_more old new ps i p text some at is index more name =
    index_with old new (take i ps) p text is index more name
    ∙ ap (has_name name) (sym (take_more ps i p some ∙ ap (λ q. take i ps ++ q ∷ []) (sym at)))
