-- "The joined curve serves as a default curve in opening" (paper 02, 2.9), over every list of interval calls and passes. Assumes nothing.
use mathlib.Core.List.{List}
use mathlib.Core.Path.{◌≡◌, sym, subst}
use Prim.Native.Nat.{ℕ, ◌<◌}
use lib.ListN.{length}
use Rattle.rules_curve.specs.Curves.{most_steps, curve_of}
use Rattle.rules_curve.specs.declared.RawCurve.{RawCurve}
use Rattle.rules_opening.specs.Openings.{opening_refusal}
use Rattle.rules_opening.specs.declared.Opening.{Opening}
use Rattle.rules_hour.proofs.AcceptedOpening.{packed_default}
use Rattle.rules_pass.specs.Calls.{Request}
use Rattle.rules_pass.proofs.Demand3.{demand_3}
use Rattle.rules_pass.proofs.FiveMinute.{five_minute}
use Rattle.rules_contract.specs.ContractUnits.{joined_raw, contract_refusal}
use Rattle.rules_contract.specs.Meaning.{IsJoined}
use Rattle.rules_contract.specs.Units.{IsContracted, ContractUnit}
use Rattle.rules_contract.proofs.Joins.{is_joined}

pub contract_unit : (o : Opening) (calls : List Request) (r : ℕ) (a b : RawCurve) → length a.steps ≡ most_steps → length b.steps ≡ most_steps → opening_refusal o ≡ 0 → r < o.resources
    → IsContracted o r a b → ContractUnit o calls r a b
contract_unit o calls r a b full-a full-b accepted l unit =
    let d = packed_default o accepted r l (contract_refusal a b) (joined_raw a b) unit.packed unit.pack in
    record {
      taken = d.0;
      hourly = demand_3 o calls r accepted l;
      five_minute = five_minute o calls r accepted l;
      default = subst (IsJoined (curve_of a) (curve_of b)) (sym d.1) (is_joined a b full-a full-b d.0);
    }
