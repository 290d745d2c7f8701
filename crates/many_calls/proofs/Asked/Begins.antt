-- A call that asks begins: it has been told nothing yet, but maybe what to store where its key is missing.
use Rattle.std.specs.Prelude.{◌≡◌, ◌≢◌, ℕ, Option, Some, None}
use Rattle.std.proofs.Common.{refl, ap, arith}
use Rattle.seize_model.specs.Given.SeizeWordsMem.{Mem}
use Rattle.map_facts_late.specs.Given.TablesDeclared.node.Node.{Node}
use Rattle.map_facts_late.specs.Given.RawReplies.{untold}
use Rattle.map_facts_late.specs.Given.RawDeclared.machines.asking.MachineReply.TheVariants as reply
use Rattle.map_facts_late.specs.Given.RawDeclared.machines.asking.Takes.{Takes}
use Rattle.map_facts_late.specs.Given.RawDeclared.machines.asking.Takes.TheVariants as takes
use Rattle.map_facts_late.specs.Given.RawDeclared.machines.asking.Told.TheVariants as tells
use Rattle.map_facts_late.specs.Given.RuleChart.{Chart}
use Rattle.map_facts_late.specs.Given.RuleWords.{Blocks}
use Rattle.map_facts_late.specs.Given.PointsSteps.{first_reply}
use Rattle.many_calls.specs.Asked.{replies_before, IsAsReplied}

pub one_value : {V : Type 0} (v v2 : V) → tells.Value v ≡ tells.Value v2 → v ≡ v2
one_value v v2 e = cc e

module _ {K V : Type 0} (hash : K → ℕ) (m : Mem (Node K V)) (c : Chart K) (blocks : Blocks) (its : Option K) (kind : Takes) (asks : kind ≢ takes.Nothing) where
  pub begun_told : (absent : Option V) → IsAsReplied hash m c blocks its (replies_before absent) (untold kind its (first_reply absent)) 0
  begun_told None = record {
    asks = asks;
    key = λ k e. e;
    key_own = λ k v some is. absurd (let none = some in omega (arith, none));
    absent_first = λ e. refl;
    absent = λ value e. absurd (cc e);
    absent_own = λ e. absurd (cc e);
    present = λ value e. absurd (cc e);
    present_own = λ e. absurd (cc e);
    present_removes = λ e. absurd (cc e);
  }
  begun_told (Some v) = record {
    asks = asks;
    key = λ k e. e;
    key_own = λ k v some is. absurd (let none = some in omega (arith, none));
    absent_first = λ e. absurd (cc e);
    absent = λ value e. ap (λ (x : V). Some (reply.Insert x)) (one_value v value e);
    absent_own = λ e. absurd (cc e);
    present = λ value e. absurd (cc e);
    present_own = λ e. absurd (cc e);
    present_removes = λ e. absurd (cc e);
  }
