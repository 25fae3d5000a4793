-- `DemandOverBytes` of specs/DemandOverBytes.antt.
use mathlib.Core.Path.{sym, ap, ap₂, ◌∙◌}
use mathlib.Core.List.{List, map}
use Prim.Native.Nat.{ℕ}
use Rattle.rules.specs.Check.{IsPlan}
use Rattle.roundtrip.specs.Fits.{Bytes}
use Rattle.water.specs.declared.Flow.{Flow}
use Rattle.device.specs.Device.{tick_call, start_call}
use Rattle.device_states.specs.declared.Device.{Device}
use Rattle.permits.specs.Module as M
use Rattle.agreement.specs.System.{System, Act, AllLent, run, start}
use Rattle.agreement.specs.Compared.{DeviceAct, fed, device_run}
use Rattle.agreement.proofs.Demand.{demand}
use Rattle.party_bytes.specs.Module.{module_of}
use Rattle.device_bytes.specs.Device.{device_of, DeviceEncodable}
use Rattle.packing.specs.Flow.{flow_of}
use Rattle.device_interface.specs.Calls as DeviceCalls
use Rattle.module_interface.specs.Calls as ModuleCalls
use Rattle.interface_laws.specs.Run.{Memory, Given, bytes_run, device_bytes_run, decoded}
use Rattle.interface_laws.specs.Compared.{bytes_seen, bytes_fed, device_bytes_seen}
use Rattle.interface_laws.specs.DemandOverBytes.{OverBytes, DemandOverBytes}
use Rattle.interface_laws.proofs.Exact.{exact}
use Rattle.interface_laws.proofs.Encodable.{all_encodable}
use Rattle.interface_laws.proofs.Runs.{SystemEncodable, flow_back, run_same, run_encodable, start_same, start_encodable, device_run_lem, device_run_encodable, device_start_lem, decoded_encoded}
use Rattle.interface_laws.proofs.Compared.{outcome_of, seen_same, fed_same, device_seen_lem, fed_below}

over_bytes : (image : List ℕ) → Bytes image → IsPlan image → (acts : List Act) → AllLent acts → OverBytes image acts
over_bytes image bytes accepted acts lent =
    let D : System = start image in
    let d : Device = (start_call image).device in
    let device : List DeviceAct = fed image D acts in
    let h : SystemEncodable D = start_encodable image accepted in
    let k : DeviceEncodable d = all_encodable.device_start image in
    let calls = ap (λ (B : Memory). bytes_run image B acts) (start_same image accepted) ∙ run_same image accepted acts lent D h in
    let same = ap (λ (B : Memory). bytes_fed image B acts) (start_same image accepted) ∙ fed_same image accepted acts lent D h (λ l q. (demand image bytes accepted l q).besides.module_steps) in
    let device_calls = ap₂ (λ (s : List ℕ) (l : List DeviceAct). device_bytes_run image s l) (device_start_lem image accepted) same ∙ device_run_lem image accepted device d k in
    record {
      equal = ap (λ (B : Memory). bytes_seen image B acts) (start_same image accepted) ∙ seen_same image accepted acts lent D h ∙ ap (map outcome_of) (demand image bytes accepted acts lent).demand.equal
          ∙ sym (ap₂ (λ (s : List ℕ) (l : List DeviceAct). device_bytes_seen image s l) (device_start_lem image accepted) same ∙ device_seen_lem image accepted device (fed_below image accepted acts D) d k);
      calls = calls;
      states = ap (λ (r : Given Memory). decoded r.memory) calls ∙ decoded_encoded (run image D acts) (run_encodable image accepted acts lent D h);
      demand = demand image bytes accepted acts lent;
      feeds = same;
      device_calls = device_calls;
      device_state = ap (λ (r : Given (List ℕ)). device_of r.memory) device_calls ∙ exact.device_again (device_run image d device) (device_run_encodable image accepted device d k);
    }

pub demand_over_bytes : DemandOverBytes
demand_over_bytes =
    record {
      lists = over_bytes;
      module_ticks = λ image s m n x. unfold ModuleCalls.tick_bytes in
          ap (λ (f : Flow). ModuleCalls.called_on (M.module_tick image m (module_of s) f) s) (sym (flow_back (flow_of n x)));
      device_ticks = λ image s m n x. unfold DeviceCalls.tick_bytes in
          ap (λ (f : Flow). DeviceCalls.called_on (tick_call image (device_of s) m f) s) (sym (flow_back (flow_of n x)));
    }
