-- It is in the map where its pair is.
use Rattle.std.specs.Prelude.{◌≡◌, Option, Some, None, is_some, option_map}
use Rattle.std.proofs.Common.{refl, ◌∙◌, ap, sym}
use Rattle.owner_map.proofs.map.HashMap.contains_key.Goals as goal

there_shown : {X Y : Type 0} (f : X → Y) (o : Option X) → is_some (option_map f o) ≡ is_some o
there_shown f None = refl
there_shown f (Some x) = refl

pub returns : goal.returns
returns g c =
    let so = c.is_some.ensures ∙ sym (there_shown _ c.get_key_value.result) in record {
      there = so ∙ ap is_some c.get_key_value.ensures.pair;
      in_any_order = λ xs order. so ∙ ap is_some (c.get_key_value.ensures.in_any_order xs order);
    }
