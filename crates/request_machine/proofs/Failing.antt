-- Counts of failures, from turn to turn.
use Rattle.std.proofs.Common.{◌≡◌, inl, inr, None, ℕ, ◌≤◌, Bool, List, [], ◌∷◌, sym, ap, ◌∙◌, subst, arith}
use Rattle.link_trait.specs.Faults.{Rose}
use Rattle.connection_binding.specs.Ends.{RoseTo, IsReadFault, IsNoReadFault}
use Rattle.connection_binding.specs.declared.ends.ReadEnd.{ReadEnd}
use Rattle.connection_binding.specs.declared.ends.ReadEnd.TheVariants.{Whole, Broken as BrokenEnd, Lost, Failed, NoMemory}
use Rattle.request_machine.specs.Kept.{Kept}
use Rattle.request_machine.specs.Carried.{ReadsInto}
use Rattle.request_machine.specs.Failed.{link_faults, ask_faults, RoseBy, TellsLinkFaults, TellsAskFaults}

-- a later count is no less
pub rose_later : (sticks : Bool) (first : ℕ) (counts : List ℕ) (old new : ℕ) → old ≤ new → RoseBy sticks first counts old → RoseBy sticks first counts new
rose_later sticks first [] old new later rose = omega (arith, later, rose)
rose_later sticks first (count ∷ counts) old new later rose = let last : count ≤ old = rose.3 in (rose.0, rose.1, rose.2, omega (arith, later, last))

-- one more
pub rose_more : (sticks : Bool) (first : ℕ) (counts : List ℕ) (old new count : ℕ) → RoseTo sticks old new count → RoseBy sticks first counts old → RoseBy sticks first (count ∷ counts) new
rose_more sticks first counts old new count to rose = (old, rose, subst (Rose sticks old) (sym to.1) to.0, omega (arith, to.1))

pub tells_link_same : (sticks : Bool) (m n : Kept) (old new : ℕ) → link_faults n.past ≡ link_faults m.past → old ≤ new → TellsLinkFaults sticks m n old new
tells_link_same sticks m n old new same later = λ first rose. subst (λ counts. RoseBy sticks first counts new) (sym same) (rose_later sticks first (link_faults m.past) old new later rose)

pub tells_link_fault : (sticks : Bool) (m n : Kept) (old new count : ℕ) → link_faults n.past ≡ count ∷ link_faults m.past → RoseTo sticks old new count → TellsLinkFaults sticks m n old new
tells_link_fault sticks m n old new count one to = λ first rose. subst (λ counts. RoseBy sticks first counts new) (sym one) (rose_more sticks first (link_faults m.past) old new count to rose)

pub tells_ask_same : (sticks : Bool) (m n : Kept) (old new : ℕ) → ask_faults n.past ≡ ask_faults m.past → old ≤ new → TellsAskFaults sticks m n old new
tells_ask_same sticks m n old new same later = λ first rose. subst (λ counts. RoseBy sticks first counts new) (sym same) (rose_later sticks first (ask_faults m.past) old new later rose)

pub tells_ask_fault : (sticks : Bool) (m n : Kept) (old new count : ℕ) → ask_faults n.past ≡ count ∷ ask_faults m.past → RoseTo sticks old new count → TellsAskFaults sticks m n old new
tells_ask_fault sticks m n old new count one to = λ first rose. subst (λ counts. RoseBy sticks first counts new) (sym one) (rose_more sticks first (ask_faults m.past) old new count to rose)

-- nothing failed, and the count stood still
pub tells_link_still : (sticks : Bool) (m n : Kept) (old new : ℕ) → link_faults n.past ≡ link_faults m.past → new ≡ old → TellsLinkFaults sticks m n old new
tells_link_still sticks m n old new same still = tells_link_same sticks m n old new same (omega (arith, still))

pub tells_ask_still : (sticks : Bool) (m n : Kept) (old new : ℕ) → ask_faults n.past ≡ ask_faults m.past → new ≡ old → TellsAskFaults sticks m n old new
tells_ask_still sticks m n old new same still = tells_ask_same sticks m n old new same (omega (arith, still))

-- a reading
pub tells_link_read : (sticks : Bool) (m same k n : Kept) (old between new link : ℕ) (end : ReadEnd) → same ≡ m → k ≡ record same { link = None } → ReadsInto link end k.past n.past → old ≤ between → IsReadFault sticks old between end → new ≡ between
    → TellsLinkFaults sticks m n old new
tells_link_read sticks m same k n old between new link end unchanged closed into later fault still =
    subst (λ c. TellsLinkFaults sticks m n old c) (sym still) (at end into fault)
  where
    faults_were : link_faults k.past ≡ link_faults m.past
    faults_were = ap (λ (v : Kept). link_faults v.past) (closed ∙ ap (λ (v : Kept). record v { link = None }) unchanged)

    at : (e : ReadEnd) → ReadsInto link e k.past n.past → IsReadFault sticks old between e → TellsLinkFaults sticks m n old between
    at (Whole reply) (inl one) f = tells_link_same sticks m n old between (ap link_faults one ∙ faults_were) later
    at (Whole reply) (inr one) f = tells_link_same sticks m n old between (ap link_faults one ∙ faults_were) later
    at (BrokenEnd wire) one f = tells_link_same sticks m n old between (ap link_faults one ∙ faults_were) later
    at Lost one f = absurd one
    at (Failed count) one f = tells_link_fault sticks m n old between count (ap link_faults one ∙ ap (λ counts. count ∷ counts) faults_were) f
    at NoMemory one f = tells_link_same sticks m n old between (ap link_faults one ∙ faults_were) later

-- one that did not fail
pub read_no_fault : (m same k n : Kept) (link : ℕ) (end : ReadEnd) → same ≡ m → k ≡ record same { link = None } → ReadsInto link end k.past n.past → IsNoReadFault end → link_faults n.past ≡ link_faults m.past
read_no_fault m same k n link end unchanged closed into fine = at end into fine
  where
    faults_were : link_faults k.past ≡ link_faults m.past
    faults_were = ap (λ (v : Kept). link_faults v.past) (closed ∙ ap (λ (v : Kept). record v { link = None }) unchanged)

    at : (e : ReadEnd) → ReadsInto link e k.past n.past → IsNoReadFault e → link_faults n.past ≡ link_faults m.past
    at (Whole reply) (inl one) f = ap link_faults one ∙ faults_were
    at (Whole reply) (inr one) f = ap link_faults one ∙ faults_were
    at (BrokenEnd wire) one f = ap link_faults one ∙ faults_were
    at Lost one f = absurd one
    at (Failed count) one f = absurd f
    at NoMemory one f = ap link_faults one ∙ faults_were
