-- All stand together as a map begins.
use Rattle.std.specs.Prelude.{length, ◌≢◌, ℕ, ◌≤◌, ◌^◌, Bool, true, false, cond, List, [], ◌∷◌}
use Rattle.std.specs.List.{All, AllPairs}
use Rattle.std.proofs.Common.{refl, arith}
use Rattle.seize_model.specs.Given.SeizeWorld.{World}
use Rattle.map_facts_late.specs.Given.TablesDeclared.node.Node.{Node}
use Rattle.map_facts_late.specs.Given.TablesChunks.{is_incremental}
use Rattle.map_facts_late.specs.Given.TablesDeclared.setting.Setting.{Setting}
use Rattle.map_facts_late.specs.Given.PointsFactsCopies.{HasDone, ClaimsNone}
use Rattle.map_facts_late.specs.Given.PointsFactsCopiesBlocking.{HasNoShares}
use Rattle.map_facts_late.specs.Given.RuleRule.{no_table}
use Rattle.map_facts_late.proofs.Given.RuleHistory.History.{history_begins}
use Rattle.many_calls.specs.Together.{IsWriter, ToClaim, in_slot, no_blocks, MapBeginsTogether}
use Rattle.many_calls.proofs.Claims.Fit.{fits_none}
use Rattle.many_calls.proofs.MapBegins.{map_begins}

module _ {K Q : Type 0} (V : Type 0) (same : K → K → Bool) (hash : K → ℕ) (asks : Q → K → Bool) (setting : Setting) (slot : ℕ → ℕ) where
  pub map_begins_together : MapBeginsTogether V same hash asks setting slot
  map_begins_together w calls none came root counter shards making = record {
    ground = record {
      came = came;
      map = map_begins same hash setting w root counter shards;
      moments = history_begins K (is_incremental setting.mode);
      kept = record { tables = λ t made known. absurd (cc known); pairs = λ n was known. absurd (cc known) };
      owned = record { tables = λ t made known. absurd (cc known); pairs = λ n was known. absurd (cc known) };
      behind = λ t x l made. absurd (omega (arith, made));
      sources = λ t made seen aborted. absurd (cc seen);
      counter = making;
      sight = λ s inside. (
        record {
          tables = λ t made seen. absurd (cc seen);
          pairs = λ n was seen. absurd (cc seen);
          linked = λ t l made. absurd (omega (arith, made));
          named = λ t p n phase borrowed made seen e. absurd (cc seen);
          later = λ t u l made seen. absurd (cc seen);
          sources = λ t made seen aborted. absurd (cc seen);
        },
        record { inside = inside; tables = λ t made seen. absurd (cc seen); pairs = λ n was seen. absurd (cc seen); counter = making },
      );
    };
    inside = λ i u e. absurd (let is = none i in cc (is, e));
    stand = λ i u e. absurd (let is = none i in cc (is, e));
    onto = λ t j l made. absurd (omega (arith, made));
    idle = λ i e. idle_begins w i (in_slot setting (slot i)) (is_incremental setting.mode);
    few = λ blocking. record { few = no_calls; claims = fits_none K (ToClaim calls) };
  }
    where
      idle_begins : (w : World (Node K V)) (i : ℕ) (its : Setting) (z : Bool)
          → cond z (HasDone same hash w i its no_table no_blocks 0 × ClaimsNone same hash w i its no_table no_blocks) (HasNoShares same hash w i its no_table no_blocks)
      idle_begins w i its true = (refl, λ j free. cc free)
      idle_begins w i its false = λ u j l. refl

      no_calls : (callers : List ℕ) → AllPairs (λ i j. i ≢ j) callers → All (IsWriter calls) callers → length callers ≤ 2 ^ 32
      no_calls [] apart all = omega arith
      no_calls (x ∷ xs) apart all = absurd (let has = all 0 x (omega arith) in let is = has.1 in let no = none x in cc (is, no))
