-- Pairs and tables, as the collector knows them.
use Rattle.std.specs.Prelude.{ℕ, ◌==◌, ◌&&◌, ◌||◌, nat_lt, Bool, true, false, List, [], ◌∷◌, Option, Some, None}
use Rattle.run_schedules.specs.declared.effect.TableId.{TableId}
use Rattle.run_schedules.specs.declared.effect.Spot.{Spot}
use Rattle.run_schedules.specs.declared.effect.Thing.{Thing}
use Rattle.run_schedules.specs.declared.effect.Thing.TheVariants.{APair, ATable}

abbrev pub same_table : TableId → TableId → Bool
same_table t u = (t.map == u.map) && (t.turn == u.turn)

abbrev pub same_thing : Thing → Thing → Bool
same_thing (APair n) (APair m) = n == m
same_thing (ATable t) (ATable u) = same_table t u
same_thing _ _ = false

abbrev pub same_spot : Spot → Spot → Bool
same_spot s t = (s.turn == t.turn) && (s.place == t.place)

-- table by table, and in a table place by place
abbrev pub is_before : Spot → Spot → Bool
is_before s t = nat_lt s.turn t.turn || ((s.turn == t.turn) && nat_lt s.place t.place)

-- the pair that a thing is
abbrev pub pair_in : Thing → List ℕ
pair_in (APair n) = n ∷ []
pair_in (ATable t) = []

-- a question is about a pair, or about none
abbrev pub same_question : Option ℕ → Option ℕ → Bool
same_question None None = true
same_question (Some n) (Some m) = n == m
same_question _ _ = false
