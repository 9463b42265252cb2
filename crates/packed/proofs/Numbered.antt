-- A refusal is had back from its number: the table of them all, by number, holds each at its own.
use Prim.Native.Nat.{ℕ}
use mathlib.Core.List.{[], ◌∷◌}
use mathlib.Core.Path.{◌≡◌, refl}
use lib.ListN.{get_or}
use Rattle.packed.specs.Paper.{number_of}
use Rattle.packed.specs.declared.Refusal.{Refusal}
use Rattle.packed.specs.declared.Refusal.TheVariants.{TooShort, TooManyNodes, TooManyEdges, WrongLength, PaddingBit, UnknownNode, KindsDiffer, BadSettings, NoAcceptedPath, BufferTooShort, WrongMapLength}

-- the refusal that bears a number
pub bearing : ℕ → Refusal
bearing n =
    get_or (
    TooShort
    ∷ TooShort
    ∷ TooManyNodes
    ∷ TooManyEdges
    ∷ WrongLength
    ∷ PaddingBit
    ∷ UnknownNode
    ∷ KindsDiffer
    ∷ BadSettings
    ∷ NoAcceptedPath
    ∷ BufferTooShort
    ∷ WrongMapLength
    ∷ []
    ) n TooShort

pub bears : (r : Refusal) → bearing (number_of r) ≡ r
unfolding bearing
bears TooShort = refl
bears TooManyNodes = refl
bears TooManyEdges = refl
bears WrongLength = refl
bears PaddingBit = refl
bears UnknownNode = refl
bears KindsDiffer = refl
bears BadSettings = refl
bears NoAcceptedPath = refl
bears BufferTooShort = refl
bears WrongMapLength = refl
