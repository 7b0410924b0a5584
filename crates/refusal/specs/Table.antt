-- The table of refusals: each name's number, and what an answer reports. Assumes nothing.
use Rattle.std.specs.Prelude.{List, ℕ}
use Rattle.refusal.specs.declared.Name.{Name}
use Rattle.refusal.specs.declared.Name.TheVariants as name
use Rattle.refusal.specs.declared.Gate.{Gate}
use Rattle.refusal.specs.declared.Gate.TheVariants as gate

-- "Refusal numbers": the row of each name
unfoldable pub number_of : Name → ℕ
number_of name.N = 1
number_of name.ZeroExp = 2
number_of name.Size = 3
number_of name.Exponent = 4
number_of name.Layout = 5
number_of name.Limits = 6
number_of name.State = 7
number_of name.Upper = 8
number_of name.Counter = 9
number_of name.Range = 10
number_of name.Coord = 11
number_of name.Overflow = 12
number_of name.Gap = 13
number_of name.Budget = 14
number_of name.Duplicate = 15
number_of name.Exhausted = 16
number_of name.Schedule = 17
number_of name.Search = 18
number_of name.Position = 19
number_of name.Full = 20
number_of name.Absent = 21
number_of name.Dirty = 22
number_of name.Disorder = 23
number_of name.Image = 24
number_of name.Foreign = 25
number_of name.Room = 26
number_of name.None = 27

-- "Order: 1 to 7 by number"
unfoldable pub name_of : Gate → Name
name_of gate.N = name.N
name_of gate.ZeroExp = name.ZeroExp
name_of gate.Size = name.Size
name_of gate.Exponent = name.Exponent
name_of gate.Layout = name.Layout
name_of gate.Limits = name.Limits
name_of gate.State = name.State

-- what an answer reports: the number of its refusal, 0 where there is none, and its values
pub record Report : Type 0 where
  pub number : ℕ
  pub values : List ℕ

-- an answer that is no refusal
abbrev pub answered : List ℕ → Report
answered values = record { number = 0; values = values }

-- a refusal by its name
abbrev pub refused : Name → List ℕ → Report
refused n values = record { number = number_of n; values = values }
