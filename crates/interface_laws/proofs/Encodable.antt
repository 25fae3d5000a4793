-- `AllEncodable` of specs/Encodable.antt.
use Rattle.interface_laws.specs.Encodable.{AllEncodable}
use Rattle.interface_laws.proofs.Parties.{module_started, module_stepped_lem, module_delivered, module_responded, module_ticked, supervisor_started, supervisor_stepped_lem, supervisor_delivered}
use Rattle.interface_laws.proofs.Devices.{device_started, device_turned, device_responded, device_ticked}

pub all_encodable : AllEncodable
all_encodable =
    record {
      module_start = module_started;
      module_step = λ image m x b h. module_stepped_lem image m x h b;
      module_deliver = λ image m x g s h. module_delivered image m x h g s;
      module_respond = λ image m x e h. module_responded image m x h e;
      module_tick = λ image m x f h. module_ticked image m x h f;
      supervisor_start = supervisor_started;
      supervisor_step = λ image v y b h. supervisor_stepped_lem image v y h b;
      supervisor_deliver = λ image v y g h. supervisor_delivered image v y h g;
      device_start = device_started;
      device_turn = λ image d m h. device_turned image d m h;
      device_respond = λ image d m e h. device_responded image d m h e;
      device_tick = λ image d m f h. device_ticked image d m h f;
    }
