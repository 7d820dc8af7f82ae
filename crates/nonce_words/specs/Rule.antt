-- The rule of the words, and what each kind of step does to the view of its seat. Word n is epoch * 2^32 + count.
use Rattle.std.specs.Prelude.{◌≡◌, ℕ, zero, suc, ◌+◌, ◌-◌, ◌*◌, ◌/◌, ◌%◌, ◌^◌, ◌<◌, ◌≤◌, List, [], ◌∷◌, ◌++◌, length, sum, sum_by, flat_map, slice_index, max}
use mathlib.Core.Option.{some}
use lib.ListN.{get_elem?}
use Rattle.atomic_table.specs.Table.{State, Me, Step}
use Rattle.nonce_words.specs.Views.{epoch_at}
use Rattle.nonce_words.specs.Fresh.{IsFresh, draws_of}
use Rattle.nonce_words.specs.declared.draw.NonceDraw.{NonceDraw}
use Rattle.nonce_words.specs.declared.rule.Tally.{Tally}

-- what all seats drew
abbrev pub drawn_in : List Tally → List NonceDraw
drawn_in views = flat_map (λ v. v.drawn) views

-- the epoch of a nonce: what the book's seat made, since no other seat made any
abbrev pub epoch_in : List Tally → ℕ → ℕ
epoch_in views nonce = sum_by (λ v. epoch_at v.made nonce) views

module _ {S : Type 0} where
  -- what holds between any two steps
  pub record IsKept (nonces : ℕ) (s : State S Tally) : Type 0 where
    -- there is a word for each nonce, and word 0
    pub wide : length s.words ≡ nonces + 1
    pub unused : slice_index s.words 0 ≡ 0
    -- a word is the nonce's epoch and the number of its draws
    pub words : (n : ℕ) → n < length s.words → slice_index s.words n ≡ epoch_in s.views n * 2 ^ 32 + draws_of (drawn_in s.views) n
    pub fresh : IsFresh (drawn_in s.views) (epoch_in s.views)
    -- no seat knows an epoch that was not made
    pub known : (j : ℕ) (v : Tally) → get_elem? s.views j ≡ some v → (n : ℕ) → epoch_at v.known n ≤ epoch_in s.views n
    -- the draws and what is left of them are 2^30, and the retirements are few, so that no count and no epoch carries
    pub shares : sum_by (λ v. v.quota + length v.drawn) s.views ≡ 2 ^ 30
    pub few : sum_by (λ v. sum v.made) s.views ≤ 2 ^ 31
    -- one seat is the book's, and no other made an epoch
    pub books : sum_by (λ v. v.books) s.views ≡ 1
    pub others : (j : ℕ) (v : Tally) → get_elem? s.views j ≡ some v → v.books ≡ 0 → v.made ≡ []

-- one more at the place n
abbrev pub raised : List ℕ → ℕ → List ℕ
raised [] zero = 1 ∷ []
raised [] (suc n) = 0 ∷ raised [] n
raised (x ∷ xs) zero = (x + 1) ∷ xs
raised (x ∷ xs) (suc n) = x ∷ raised xs n

-- the greater at each place
abbrev pub greater : List ℕ → List ℕ → List ℕ
greater [] ys = ys
greater (x ∷ xs) [] = x ∷ xs
greater (x ∷ xs) (y ∷ ys) = max x y ∷ greater xs ys

-- one draw more, and one less to draw
abbrev pub with_draw : Tally → NonceDraw → Tally
with_draw v d = record v { quota = v.quota - 1; drawn = v.drawn ++ d ∷ [] }

module _ {S : Type 0} where
  -- a draw's count is one more than the word's, and its epoch is the word's, which is at least the one that the seat knew
  abbrev pub drew : Step S → Me S Tally → ℕ → Me S Tally → Type 0
  drew step before word after =
      (after ≡ (with_draw before.0 (record { nonce = step.word; count = word % 2 ^ 32 + 1; epoch = word / 2 ^ 32 }), before.1))
      × (epoch_at before.0.known step.word ≤ word / 2 ^ 32)
      × (word % 2 ^ 32 < 2 ^ 30)

  -- a retirement makes one epoch more of the nonce
  abbrev pub retired : Step S → Me S Tally → ℕ → Me S Tally → Type 0
  retired step before word after = after ≡ (record before.0 { made = raised before.0.made step.word }, before.1)

-- the first seat, before it is cut into the book's and the first that draws
abbrev pub opened : Tally
opened = record { quota = 2 ^ 30; drawn = []; known = []; books = 1; made = [] }

-- the book's part: no quota, and what was made
abbrev pub book_part : Tally → Tally
book_part v = record { quota = 0; drawn = []; known = []; books = v.books; made = v.made }

-- the part that draws: the quota, and nothing made or known
abbrev pub draw_part : Tally → Tally
draw_part v = record { quota = v.quota; drawn = v.drawn; known = []; books = 0; made = [] }

-- what a split leaves
abbrev pub without : ℕ → Tally → Tally
without amount v = record v { quota = v.quota - amount }

-- what a split moves
abbrev pub only : ℕ → Tally → Tally
only amount v = record { quota = amount; drawn = []; known = v.known; books = 0; made = [] }

-- a note: it knows what the book's seat made
abbrev pub noted : Tally → Tally
noted v = record { quota = 0; drawn = []; known = v.made; books = 0; made = [] }

-- the first takes in the second, which is not the book's
abbrev pub joined : Tally → Tally → Tally
joined v w = record v { quota = v.quota + w.quota; drawn = v.drawn ++ w.drawn; known = greater v.known w.known }

-- what is left of a seat that was joined into another
abbrev pub spent : Tally
spent = record { quota = 0; drawn = []; known = []; books = 0; made = [] }
