-- How the kernel behind a handle is coded.
use base.Stored.{Coded}
use Rattle.ada_embed.specs.Sealed.{kernel_row}

abbrev pub kernel_coded : Coded kernel_row.Denot
kernel_coded = kernel_row.coded
