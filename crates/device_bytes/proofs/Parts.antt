-- `DeviceParts` of specs/Device.antt.
use Rattle.device_bytes.specs.Device.{DeviceParts}
use Rattle.device_bytes.proofs.Back.{device_stands, device_back, device_written, device_size_lem, device_unfit}
use Rattle.device_bytes.proofs.InPlace.{device_kept, device_moved}

pub device_parts : DeviceParts
device_parts =
    record {
      stands = device_stands;
      back = device_back;
      written = device_written;
      size = device_size_lem;
      put = λ b m own g d q. device_kept b g d m own q;
      moved = λ b m own states g d q n. device_moved b g d m own q states n;
      unfit = device_unfit;
    }
