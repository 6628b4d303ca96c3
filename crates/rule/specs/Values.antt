-- The values of expressions and conditions.
use Rattle.std.specs.Prelude.{ℕ, ◌+◌, Bool, true, false, cond, not, Some, None, Option, nat_lt}
use Rattle.kinds.specs.Arithmetic.{Arithmetic}
use Rattle.rule.specs.Work.{Work, gives, faults, next, of_kind}
use Rattle.lines.specs.declared.sorts.Operator.{Operator}
use Rattle.lines.specs.declared.sorts.Operator.TheVariants.{Plus, Minus, Times, Over}
use Rattle.lines.specs.declared.sorts.Relation.{Relation}
use Rattle.lines.specs.declared.sorts.Relation.TheVariants.{Equal, Less}
use Rattle.script.specs.Names.{Names, Standing, nothing, cell, cells, code}
use Rattle.script.specs.Script.{Place, simple, element, fixed, Expression, constant, word_of, work, choose}
use Rattle.script.specs.Script.{Condition, truth, compared, negated, implies}

-- the cell of a simple variable (fault 0 where a name stands for something else, which no accepted script has)
abbrev pub cell_of : Standing → Work ℕ
cell_of nothing = faults 0
cell_of (cell n) = gives n
cell_of (cells b n) = faults 0
cell_of (code x y s) = faults 0

-- the cell of element i of n cells from b on; past them it is fault 23
abbrev pub within : ℕ → ℕ → ℕ → Work ℕ
within b n i = elim (nat_lt i n) [ true ↦ gives (b + i) | false ↦ faults 23 ]

-- the cell of an element of what a name stands for
abbrev pub element_of : Standing → ℕ → Work ℕ
element_of nothing i = faults 0
element_of (cell n) i = faults 0
element_of (cells b n) i = within b n i
element_of (code x y s) i = faults 0

-- a word that is no index is fault 23
abbrev pub indexed : Option ℕ → Work ℕ
indexed None = faults 23
indexed (Some i) = gives i

-- "a implies b"; both sides have been worked
abbrev pub material : Bool → Bool → Bool
material a b = cond a b true

-- what the kind's operations give
abbrev pub operate : Arithmetic → Operator → ℕ → ℕ → Work ℕ
operate K Plus v w = of_kind (K.sum v w)
operate K Minus v w = of_kind (K.difference v w)
operate K Times v w = of_kind (K.product v w)
operate K Over v w = of_kind (K.quotient v w)

abbrev pub compare : Arithmetic → Relation → ℕ → ℕ → Bool
compare K Equal v w = K.equal v w
compare K Less v w = K.less v w

-- Values, with what each name stands for (E) and how a cell is read (fetch). Parts are worked from left to right, and the first fault ends it.
module _ (K : Arithmetic) (E : Names) (fetch : ℕ → Work ℕ) where
  abbrev mutual
    -- the cell of a place
    pub cell_at : Place → Work ℕ
    cell_at (simple x) = cell_of (E x)
    cell_at (element a i) = next (value i) (λ w. next (indexed (K.index w)) (element_of (E a)))
    cell_at (fixed a i) = element_of (E a) i

    -- the word of an expression; of a choice only the condition and the chosen part are worked
    pub value : Expression → Work ℕ
    value (constant n) = gives (K.constant n)
    value (word_of p) = next (cell_at p) fetch
    value (work o a b) = next (value a) (λ v. next (value b) (operate K o v))
    value (choose c a b) = let x = value a in let y = value b in next (holds c) (λ t. elim t [ true ↦ x | false ↦ y ])

    -- whether a condition holds
    pub holds : Condition → Work Bool
    holds (truth b) = gives b
    holds (compared r a b) = next (value a) (λ v. next (value b) (λ w. gives (compare K r v w)))
    holds (negated c) = next (holds c) (λ t. gives (not t))
    holds (implies c d) = next (holds c) (λ t. next (holds d) (λ u. gives (material t u)))
