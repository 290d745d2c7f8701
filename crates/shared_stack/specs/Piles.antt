-- The values of a pile, the topmost first.
use Rattle.std.specs.Prelude.{List, [], ◌∷◌, Option, Some, None}
use Rattle.std.specs.Arc.{arc_value}
use Rattle.std.specs.declared.alloc.Global.{Global}
use Rattle.std.specs.declared.sync.Arc.{Arc}
use Rattle.shared_stack.specs.declared.pile.Layer.{Layer, Layer', Held-Layer-below, None', Some'}
use Rattle.shared_stack.specs.declared.pile.Pile.{Pile}

abbrev mutual
  -- those of a layer, and of the layers below it
  pub values_from : {V : Type 0} → Layer V → List V
  values_from (Layer' value below) = arc_value value ∷ values_below below

  -- those below a layer
  pub values_below : {V : Type 0} → Held-Layer-below V → List V
  values_below None' = []
  values_below (Some' at layer) = values_from layer

module _ {V : Type 0} where
  -- those from a layer on, if there is one
  abbrev pub values_at : Option (Arc (Layer V) Global) → List V
  values_at None = []
  values_at (Some layer) = values_from (arc_value layer)

  abbrev pub values : Pile V → List V
  values pile = values_at pile.top
