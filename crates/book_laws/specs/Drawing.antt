-- What the draws of traces have to be, so that they can be inserted into a journal.
use Rattle.std.specs.Prelude.{◌≡◌, ℕ, zero, suc, ◌+◌, ◌^◌, ◌≤◌, Bool, IsTrue, List, [], ◌∷◌, length, reverse, count_by, flat_map, All}
use Rattle.nonce_words.specs.declared.draw.NonceDraw.{NonceDraw}
use Rattle.nonce_words.specs.Fresh.{IsFresh}
use Rattle.auth_events.specs.declared.journal.Entry.{Entry}
use Rattle.auth_events.specs.Tables.{Tables}
use Rattle.auth_events.specs.Pages.{count_of}
use Rattle.auth_events.specs.Book.{epoch}
use Rattle.auth_events.specs.Fresh.{StepTold, knows, trace_of}
use Rattle.auth_events.specs.Fresh.StepTold.{DidCall, DidDraw}

-- the draws of a trace
abbrev pub drawn_in : List StepTold → List NonceDraw
drawn_in [] = []
drawn_in (DidCall ∷ steps) = drawn_in steps
drawn_in (DidDraw n c e ∷ steps) = record { nonce = n; count = c; epoch = e } ∷ drawn_in steps

-- how many calls a trace has
abbrev pub calls_in : List StepTold → ℕ
calls_in [] = 0
calls_in (DidCall ∷ steps) = suc (calls_in steps)
calls_in (DidDraw n c e ∷ steps) = calls_in steps

-- the draws that stand in the trace behind k calls and before the next
abbrev pub drawn_behind : List StepTold → ℕ → List NonceDraw
drawn_behind [] k = []
drawn_behind (DidCall ∷ steps) zero = []
drawn_behind (DidCall ∷ steps) (suc k) = drawn_behind steps k
drawn_behind (DidDraw n c e ∷ steps) zero = record { nonce = n; count = c; epoch = e } ∷ drawn_behind steps 0
drawn_behind (DidDraw n c e ∷ steps) (suc k) = drawn_behind steps (suc k)

module _ (names : Tables) where
  -- after these entries the request knows the nonce, and the draw's epoch is no earlier
  pub record IsDrawnAfter (past : List Entry) (r : ℕ) (draw : NonceDraw) : Type 0 where
    pub named : 1 ≤ draw.nonce
    pub known : IsTrue (knows names past r draw.nonce)
    pub late : epoch names past draw.nonce ≤ draw.epoch

  -- each draw of a trace is drawn after the last entry of its request that stands before it there
  abbrev pub AreDrawnInTime : List (List StepTold) → List Entry → List Entry → Type 0
  AreDrawnInTime traces past [] = Unit {0}
  AreDrawnInTime traces past (entry ∷ rest) =
      All (IsDrawnAfter (entry ∷ past) entry.request) (drawn_behind (trace_of traces entry.request) (count_of entry.request past + 1))
      × AreDrawnInTime traces (entry ∷ past) rest

-- the traces have the calls of the journal, and their draws are those of the words, which are fresh up to the journal's epochs
pub record AreDraws (names : Tables) (journal : List Entry) (traces : List (List StepTold)) (drawn : List NonceDraw) : Type 0 where
  -- each entry is of a request with a trace, and each trace has the calls of its request
  pub requests : All (λ entry. (1 ≤ entry.request) × (entry.request ≤ length traces)) journal
  pub calls : (r : ℕ) → 1 ≤ r → r ≤ length traces → calls_in (trace_of traces r) ≡ count_of r journal
  -- no draw stands before the first call of its request
  pub front : All (λ trace. drawn_behind trace 0 ≡ []) traces
  pub in_time : AreDrawnInTime names traces [] journal
  -- the draws of the traces are those of the words, in whatever order
  pub times : (p : NonceDraw → Bool) → count_by p (flat_map drawn_in traces) ≡ count_by p drawn
  pub fresh : IsFresh drawn (epoch names (reverse journal))
  pub few : length drawn ≤ 2 ^ 30
