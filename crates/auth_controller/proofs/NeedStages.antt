-- Which stage a need is one of.
use Rattle.std.proofs.Common.{◌≡◌, ℕ, ◌==◌, false, eq-eqb, Option, Some, None, is_some, option_map, refl, sym, ap, ◌∙◌, if◌then◌else◌}
use Rattle.auth_text.specs.Login.{Login}
use Rattle.std.proofs.lemmas.Bool.{false≢true}
use Rattle.spaces.specs.declared.site.Target.{Target}
use Rattle.spaces.specs.declared.terms.Terms.{Terms}
use Rattle.spaces.specs.ProtectionSpaces.{ProtectionSpace}
use Rattle.auth_events.specs.declared.journal.Gift.{Gift}
use Rattle.request_machine.specs.declared.holding.Holding.{Holding}
use Rattle.request_machine.specs.declared.need.Need.{Need}
use Rattle.request_machine.specs.declared.need.Need.TheVariants.{Book, SpaceNo, TermsNo, TextNo, SpaceOf, IdentityOf, TermsOf, Draw as DrawNeed, Ended}
use Rattle.request_machine.specs.declared.stage.Closing.{Closing}
use Rattle.request_machine.specs.declared.stage.Piece.{Piece}
use Rattle.request_machine.specs.declared.stage.Piece.TheVariants.{Space as OfSpace, Identity as OfIdentity, Terms as OfTerms}
use Rattle.request_machine.specs.declared.stage.Prompt.{Prompt}
use Rattle.request_machine.specs.declared.stage.Stage.{Stage}
use Rattle.request_machine.specs.declared.stage.Stage.TheVariants.{Go, Learn, Draw, Choose, NameSpace, NameTerms, Ask, NameText, NameRenewal, Continue, LoseLink, Read, NextNonce, NameLast, End, SpentOver, Over}
use Rattle.request_machine.specs.Changed.{holding}
use Rattle.request_machine.specs.Kept.{Kept}
use Rattle.request_machine.specs.Needs.{need_at, need_of}

-- kinds of needs, by number
abbrev pub kind : Need → ℕ
kind (Book call) = 0
kind (SpaceNo space) = 1
kind (TermsNo space terms) = 2
kind (TextNo identity) = 3
kind (SpaceOf space) = 4
kind (IdentityOf gift) = 5
kind (TermsOf terms) = 6
kind (DrawNeed nonce) = 7
kind Ended = 8

abbrev pub piece_kind : Piece → ℕ
piece_kind OfSpace = 4
piece_kind OfIdentity = 5
piece_kind OfTerms = 6

-- 9 where the machine goes on by itself
abbrev pub stage_kind : Stage → ℕ
stage_kind (NameSpace t) = 1
stage_kind (NameTerms t space) = 2
stage_kind (NameRenewal t gift) = 2
stage_kind (NameLast t gift c) = 2
stage_kind (NameText p) = 3
stage_kind (Ask p ordinal) = 4
stage_kind (Learn t piece) = piece_kind piece
stage_kind (Draw t nonce) = 7
stage_kind Over = 8
stage_kind Go = 9
stage_kind (Choose t) = 9
stage_kind (Continue t) = 9
stage_kind (LoseLink link) = 9
stage_kind (Read link) = 9
stage_kind (NextNonce t c) = 9
stage_kind (End outcome) = 9
stage_kind SpentOver = 9
stage_kind stage = 0

abbrev kind_or : ℕ → Option Need → ℕ
kind_or k None = k
kind_or k (Some need) = kind need

mapped : {A : Type 0} (k : ℕ) (f : A → Need) → ((a : A) → kind (f a) ≡ k) → (o : Option A) → kind_or k (option_map f o) ≡ k
mapped k f is None = refl
mapped k f is (Some a) = is a

of_piece : (piece : Piece) (h : Holding) → kind (need_of piece h) ≡ piece_kind piece
of_piece OfSpace h = refl
of_piece OfIdentity h = refl
of_piece OfTerms h = refl

asked : (space : ℕ) (o : Option ProtectionSpace) → kind_or 4 (if is_some o then None else Some (SpaceOf space)) ≡ 4
asked space None = refl
asked space (Some found) = refl

at_stage : (m : Kept) (stage : Stage) → kind_or (stage_kind stage) (need_at m stage) ≡ stage_kind stage
at_stage m (NameSpace t) = mapped 1 SpaceNo (λ a. refl) m.unnamed_space
at_stage m (NameTerms t space) = mapped 2 (TermsNo space) (λ a. refl) m.unnamed_terms
at_stage m (NameRenewal t gift) = mapped 2 (TermsNo gift.space) (λ a. refl) m.unnamed_terms
at_stage m (NameLast t gift c) = mapped 2 (TermsNo gift.space) (λ a. refl) m.unnamed_terms
at_stage m (NameText p) = mapped 3 TextNo (λ a. refl) m.given
at_stage m (Ask p ordinal) = asked p.space m.space
at_stage m (Learn t piece) = mapped (piece_kind piece) (need_of piece) (of_piece piece) (holding m t)
at_stage m stage = refl

-- a stage asks for needs of its kind alone
pub is_kind : (m : Kept) (stage : Stage) (need : Need) → need_at m stage ≡ Some need → kind need ≡ stage_kind stage
is_kind m stage need e = sym (ap (kind_or (stage_kind stage)) e) ∙ at_stage m stage

pub not_it : (a b : ℕ) → a ≡ b → (a == b) ≡ false → ⊥
not_it a b e other = absurd (false≢true (sym other ∙ eq-eqb a b e))

some_of : {A : Type 0} (f : A → Need) (g : Need → A) → ((a : A) → g (f a) ≡ a) → (o : Option A) (a : A) → option_map f o ≡ Some (f a) → o ≡ Some a
some_of f g back None a e = absurd (let clash : None ≡ Some (f a) = e in cc)
some_of f g back (Some b) a e = let same : f b ≡ f a = cc in ap Some (sym (back b) ∙ (ap g same ∙ back a))

-- A SPACE TO BE NAMED

pub space_need : (m : Kept) (stage : Stage) (space : ProtectionSpace) → need_at m stage ≡ Some (SpaceNo space) → (t : Target) × (stage ≡ NameSpace t) × (m.unnamed_space ≡ Some space)
space_need m (NameSpace t) space e = (t, refl, some_of SpaceNo space_in (λ a. refl) m.unnamed_space space e)
  where
    space_in : Need → ProtectionSpace
    space_in (SpaceNo found) = found
    space_in _ = space
space_need m (Learn t OfSpace) space e = absurd (not_it 1 4 (is_kind m (Learn t OfSpace) (SpaceNo space) e) refl)
space_need m (Learn t OfIdentity) space e = absurd (not_it 1 5 (is_kind m (Learn t OfIdentity) (SpaceNo space) e) refl)
space_need m (Learn t OfTerms) space e = absurd (not_it 1 6 (is_kind m (Learn t OfTerms) (SpaceNo space) e) refl)
space_need m stage space e = absurd (not_it 1 (stage_kind stage) (is_kind m stage (SpaceNo space) e) refl)

-- TERMS TO BE NAMED

pub data IsTermsStage (m : Kept) (space : ℕ) (stage : Stage) : Type 0 where
  chosen : (t : Target) → stage ≡ NameTerms t space → IsTermsStage m space stage
  stale : (t : Target) → (gift : Gift) → stage ≡ NameRenewal t gift → gift.space ≡ space → IsTermsStage m space stage
  last : (t : Target) → (gift : Gift) → (c : Closing) → stage ≡ NameLast t gift c → gift.space ≡ space → IsTermsStage m space stage

pub terms_need : (m : Kept) (stage : Stage) (space : ℕ) (terms : Terms) → need_at m stage ≡ Some (TermsNo space terms) → IsTermsStage m space stage × (m.unnamed_terms ≡ Some terms)
terms_need m stage space terms = by stage
  where
    space_in : Need → ℕ
    space_in (TermsNo n found) = n
    space_in _ = space

    terms_in : Need → Terms
    terms_in (TermsNo n found) = found
    terms_in _ = terms

    both : (n : ℕ) (o : Option Terms) → option_map (TermsNo n) o ≡ Some (TermsNo space terms) → (n ≡ space) × (o ≡ Some terms)
    both n None e = absurd (let clash : None ≡ Some (TermsNo space terms) = e in cc)
    both n (Some found) e = let same : TermsNo n found ≡ TermsNo space terms = cc in (ap space_in same, ap Some (ap terms_in same))

    by : (x : Stage) → need_at m x ≡ Some (TermsNo space terms) → IsTermsStage m space x × (m.unnamed_terms ≡ Some terms)
    by (NameTerms t n) e = let x = both n m.unnamed_terms e in (chosen t (ap (NameTerms t) x.0), x.1)
    by (NameRenewal t gift) e = let x = both gift.space m.unnamed_terms e in (stale t gift refl x.0, x.1)
    by (NameLast t gift c) e = let x = both gift.space m.unnamed_terms e in (last t gift c refl x.0, x.1)
    by (Learn t OfSpace) e = absurd (not_it 2 4 (is_kind m (Learn t OfSpace) (TermsNo space terms) e) refl)
    by (Learn t OfIdentity) e = absurd (not_it 2 5 (is_kind m (Learn t OfIdentity) (TermsNo space terms) e) refl)
    by (Learn t OfTerms) e = absurd (not_it 2 6 (is_kind m (Learn t OfTerms) (TermsNo space terms) e) refl)
    by x e = absurd (not_it 2 (stage_kind x) (is_kind m x (TermsNo space terms) e) refl)

-- A TEXT TO BE NAMED

pub text_need : (m : Kept) (stage : Stage) (identity : Login) → need_at m stage ≡ Some (TextNo identity) → (p : Prompt) × (stage ≡ NameText p)
text_need m (NameText p) identity e = (p, refl)
text_need m (Learn t OfSpace) identity e = absurd (not_it 3 4 (is_kind m (Learn t OfSpace) (TextNo identity) e) refl)
text_need m (Learn t OfIdentity) identity e = absurd (not_it 3 5 (is_kind m (Learn t OfIdentity) (TextNo identity) e) refl)
text_need m (Learn t OfTerms) identity e = absurd (not_it 3 6 (is_kind m (Learn t OfTerms) (TextNo identity) e) refl)
text_need m stage identity e = absurd (not_it 3 (stage_kind stage) (is_kind m stage (TextNo identity) e) refl)

-- WHAT IS READ

pub data IsSpaceStage (m : Kept) (space : ℕ) (stage : Stage) : Type 0 where
  held : (t : Target) → (h : Holding) → stage ≡ Learn t OfSpace → holding m t ≡ Some h → h.gift.space ≡ space → IsSpaceStage m space stage
  asking : (p : Prompt) → (ordinal : ℕ) → stage ≡ Ask p ordinal → p.space ≡ space → IsSpaceStage m space stage

pub space_of_need : (m : Kept) (stage : Stage) (space : ℕ) → need_at m stage ≡ Some (SpaceOf space) → IsSpaceStage m space stage
space_of_need m stage space = by stage
  where
    space_in : Need → ℕ
    space_in (SpaceOf n) = n
    space_in _ = space

    same : (n : ℕ) → Some (SpaceOf n) ≡ Some (SpaceOf space) → n ≡ space
    same n e = let it : SpaceOf n ≡ SpaceOf space = cc in ap space_in it

    of_held : (t : Target) (o : Option Holding) → holding m t ≡ o → option_map (need_of OfSpace) o ≡ Some (SpaceOf space) → IsSpaceStage m space (Learn t OfSpace)
    of_held t None k e = absurd (let clash : None ≡ Some (SpaceOf space) = e in cc)
    of_held t (Some h) k e = held t h refl k (same h.gift.space e)

    of_prompt : (p : Prompt) (ordinal : ℕ) (o : Option ProtectionSpace) → (if is_some o then None else Some (SpaceOf p.space)) ≡ Some (SpaceOf space) → IsSpaceStage m space (Ask p ordinal)
    of_prompt p ordinal None e = asking p ordinal refl (same p.space e)
    of_prompt p ordinal (Some found) e = absurd (let clash : None ≡ Some (SpaceOf space) = e in cc)

    by : (x : Stage) → need_at m x ≡ Some (SpaceOf space) → IsSpaceStage m space x
    by (Learn t OfSpace) e = of_held t (holding m t) refl e
    by (Ask p ordinal) e = of_prompt p ordinal m.space e
    by (Learn t OfIdentity) e = absurd (not_it 4 5 (is_kind m (Learn t OfIdentity) (SpaceOf space) e) refl)
    by (Learn t OfTerms) e = absurd (not_it 4 6 (is_kind m (Learn t OfTerms) (SpaceOf space) e) refl)
    by x e = absurd (not_it 4 (stage_kind x) (is_kind m x (SpaceOf space) e) refl)

pub identity_need : (m : Kept) (stage : Stage) (gift : Gift) → need_at m stage ≡ Some (IdentityOf gift) → (t : Target) × (h : Holding) × (stage ≡ Learn t OfIdentity) × (holding m t ≡ Some h) × (h.gift ≡ gift)
identity_need m stage gift = by stage
  where
    gift_in : Need → Gift
    gift_in (IdentityOf found) = found
    gift_in _ = gift

    of_held : (t : Target) (o : Option Holding) → holding m t ≡ o → option_map (need_of OfIdentity) o ≡ Some (IdentityOf gift) → (x : Target) × (h : Holding) × (Learn t OfIdentity ≡ Learn x OfIdentity) × (holding m x ≡ Some h) × (h.gift ≡ gift)
    of_held t None k e = absurd (let clash : None ≡ Some (IdentityOf gift) = e in cc)
    of_held t (Some h) k e = let it : IdentityOf h.gift ≡ IdentityOf gift = cc in (t, h, refl, k, ap gift_in it)

    by : (x : Stage) → need_at m x ≡ Some (IdentityOf gift) → (t : Target) × (h : Holding) × (x ≡ Learn t OfIdentity) × (holding m t ≡ Some h) × (h.gift ≡ gift)
    by (Learn t OfIdentity) e = of_held t (holding m t) refl e
    by (Learn t OfSpace) e = absurd (not_it 5 4 (is_kind m (Learn t OfSpace) (IdentityOf gift) e) refl)
    by (Learn t OfTerms) e = absurd (not_it 5 6 (is_kind m (Learn t OfTerms) (IdentityOf gift) e) refl)
    by x e = absurd (not_it 5 (stage_kind x) (is_kind m x (IdentityOf gift) e) refl)

pub terms_of_need : (m : Kept) (stage : Stage) (terms : ℕ) → need_at m stage ≡ Some (TermsOf terms) → (t : Target) × (h : Holding) × (stage ≡ Learn t OfTerms) × (holding m t ≡ Some h) × (h.terms ≡ terms)
terms_of_need m stage terms = by stage
  where
    terms_in : Need → ℕ
    terms_in (TermsOf n) = n
    terms_in _ = terms

    of_held : (t : Target) (o : Option Holding) → holding m t ≡ o → option_map (need_of OfTerms) o ≡ Some (TermsOf terms) → (x : Target) × (h : Holding) × (Learn t OfTerms ≡ Learn x OfTerms) × (holding m x ≡ Some h) × (h.terms ≡ terms)
    of_held t None k e = absurd (let clash : None ≡ Some (TermsOf terms) = e in cc)
    of_held t (Some h) k e = let it : TermsOf h.terms ≡ TermsOf terms = cc in (t, h, refl, k, ap terms_in it)

    by : (x : Stage) → need_at m x ≡ Some (TermsOf terms) → (t : Target) × (h : Holding) × (x ≡ Learn t OfTerms) × (holding m t ≡ Some h) × (h.terms ≡ terms)
    by (Learn t OfTerms) e = of_held t (holding m t) refl e
    by (Learn t OfSpace) e = absurd (not_it 6 4 (is_kind m (Learn t OfSpace) (TermsOf terms) e) refl)
    by (Learn t OfIdentity) e = absurd (not_it 6 5 (is_kind m (Learn t OfIdentity) (TermsOf terms) e) refl)
    by x e = absurd (not_it 6 (stage_kind x) (is_kind m x (TermsOf terms) e) refl)

-- A COUNT

pub draw_need : (m : Kept) (stage : Stage) (nonce : ℕ) → need_at m stage ≡ Some (DrawNeed nonce) → (t : Target) × (stage ≡ Draw t nonce)
draw_need m stage nonce = by stage
  where
    nonce_in : Need → ℕ
    nonce_in (DrawNeed n) = n
    nonce_in _ = nonce

    by : (x : Stage) → need_at m x ≡ Some (DrawNeed nonce) → (t : Target) × (x ≡ Draw t nonce)
    by (Draw t n) e = let it : DrawNeed n ≡ DrawNeed nonce = cc in (t, ap (Draw t) (ap nonce_in it))
    by (Learn t OfSpace) e = absurd (not_it 7 4 (is_kind m (Learn t OfSpace) (DrawNeed nonce) e) refl)
    by (Learn t OfIdentity) e = absurd (not_it 7 5 (is_kind m (Learn t OfIdentity) (DrawNeed nonce) e) refl)
    by (Learn t OfTerms) e = absurd (not_it 7 6 (is_kind m (Learn t OfTerms) (DrawNeed nonce) e) refl)
    by x e = absurd (not_it 7 (stage_kind x) (is_kind m x (DrawNeed nonce) e) refl)

-- THE END

pub over_need : (m : Kept) (stage : Stage) → need_at m stage ≡ Some Ended → stage ≡ Over
over_need m Over e = refl
over_need m (Learn t OfSpace) e = absurd (not_it 8 4 (is_kind m (Learn t OfSpace) Ended e) refl)
over_need m (Learn t OfIdentity) e = absurd (not_it 8 5 (is_kind m (Learn t OfIdentity) Ended e) refl)
over_need m (Learn t OfTerms) e = absurd (not_it 8 6 (is_kind m (Learn t OfTerms) Ended e) refl)
over_need m stage e = absurd (not_it 8 (stage_kind stage) (is_kind m stage Ended e) refl)
