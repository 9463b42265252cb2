-- The paper's number and values for each case of the enums that the code answers with (document 01, last section).
use Rattle.std.specs.Prelude.{ℕ, Bool, Result, Ok, Err, length}
use Rattle.packed.specs.Graph.{nodes}
use Rattle.packed.specs.Refusals.{Refused, Reading, graph, refusal}
use Rattle.packed.specs.declared.Refusal.{Refusal}
use Rattle.packed.specs.declared.Refusal.TheVariants.{TooShort, TooManyNodes, TooManyEdges, WrongLength, PaddingBit, UnknownNode, KindsDiffer, BadSettings, NoAcceptedPath, BufferTooShort, WrongMapLength}
use Rattle.packed.specs.declared.Refused as code
use Rattle.packed.specs.declared.Summary.{Summary}

abbrev pub number_of : Refusal → ℕ
number_of TooShort = 1
number_of TooManyNodes = 2
number_of TooManyEdges = 3
number_of WrongLength = 4
number_of PaddingBit = 5
number_of UnknownNode = 6
number_of KindsDiffer = 7
number_of BadSettings = 8
number_of NoAcceptedPath = 9
number_of BufferTooShort = 10
number_of WrongMapLength = 11

abbrev pub refused_by : Refusal → ℕ → Refused
refused_by r file = record { number = number_of r; file = file }

-- Read answers kind and both counts, or a refusal
pub data ReadSays : Type 0 where
  counts : Bool → ℕ → ℕ → ReadSays
  refused : Refused → ReadSays

abbrev pub summary : Reading → ReadSays
summary (graph g) = counts g.directed (nodes g) (length g.edges)
summary (refusal r) = refused r

abbrev pub counts_in : Summary → ReadSays
counts_in s = counts s.directed s.nodes s.edges

abbrev pub refused_in : code.Refused → Refused
refused_in r = refused_by r.refusal r.file

abbrev pub read_paper : Result Summary code.Refused → ReadSays
read_paper (Ok s) = counts_in s
read_paper (Err r) = refused (refused_in r)
