-- The codes of the enums: the numbers that stand in a frame (REFERENCE, "Commands"). They are those of the Rust.
-- Assumes nothing.
use Rattle.std.specs.Prelude.{ℕ}
use Rattle.cmd_lora.specs.declared.Sf.{Sf}
use Rattle.cmd_lora.specs.declared.Sf.TheVariants as SfV
use Rattle.cmd_lora.specs.declared.LoraBw.{LoraBw}
use Rattle.cmd_lora.specs.declared.LoraBw.TheVariants as LoraBwV
use Rattle.cmd_lora.specs.declared.LoraCr.{LoraCr}
use Rattle.cmd_lora.specs.declared.LoraCr.TheVariants as LoraCrV
use Rattle.cmd_lora.specs.declared.Ldro.{Ldro}
use Rattle.cmd_lora.specs.declared.Ldro.TheVariants as LdroV
use Rattle.cmd_lora.specs.declared.LoraFilter.{LoraFilter}
use Rattle.cmd_lora.specs.declared.LoraFilter.TheVariants as LoraFilterV
use Rattle.cmd_lora.specs.declared.HeaderType.{HeaderType}
use Rattle.cmd_lora.specs.declared.HeaderType.TheVariants as HeaderTypeV
use Rattle.cmd_lora.specs.declared.TimeoutFormat.{TimeoutFormat}
use Rattle.cmd_lora.specs.declared.TimeoutFormat.TheVariants as TimeoutFormatV
use Rattle.cmd_lora.specs.declared.LoraCadExitMode.{LoraCadExitMode}
use Rattle.cmd_lora.specs.declared.LoraCadExitMode.TheVariants as LoraCadExitModeV
use Rattle.cmd_lora.specs.declared.AddrLen.{AddrLen}
use Rattle.cmd_lora.specs.declared.AddrLen.TheVariants as AddrLenV
use Rattle.cmd_lora.specs.declared.TimingSyncMode.{TimingSyncMode}
use Rattle.cmd_lora.specs.declared.TimingSyncMode.TheVariants as TimingSyncModeV

abbrev pub sf_code : Sf → ℕ
sf_code SfV.Sf5 = 5
sf_code SfV.Sf6 = 6
sf_code SfV.Sf7 = 7
sf_code SfV.Sf8 = 8
sf_code SfV.Sf9 = 9
sf_code SfV.Sf10 = 10
sf_code SfV.Sf11 = 11
sf_code SfV.Sf12 = 12

abbrev pub lora_bw_code : LoraBw → ℕ
lora_bw_code LoraBwV.Bw7 = 0
lora_bw_code LoraBwV.Bw15 = 1
lora_bw_code LoraBwV.Bw31 = 2
lora_bw_code LoraBwV.Bw62 = 3
lora_bw_code LoraBwV.Bw125 = 4
lora_bw_code LoraBwV.Bw250 = 5
lora_bw_code LoraBwV.Bw500 = 6
lora_bw_code LoraBwV.Bw1000 = 7
lora_bw_code LoraBwV.Bw10 = 8
lora_bw_code LoraBwV.Bw20 = 9
lora_bw_code LoraBwV.Bw41 = 10
lora_bw_code LoraBwV.Bw83 = 11
lora_bw_code LoraBwV.Bw101 = 12
lora_bw_code LoraBwV.Bw203 = 13
lora_bw_code LoraBwV.Bw406 = 14
lora_bw_code LoraBwV.Bw812 = 15

abbrev pub lora_cr_code : LoraCr → ℕ
lora_cr_code LoraCrV.NoCoding = 0
lora_cr_code LoraCrV.Cr1Ham45Si = 1
lora_cr_code LoraCrV.Cr2Ham23Si = 2
lora_cr_code LoraCrV.Cr3Ham47Si = 3
lora_cr_code LoraCrV.Cr4Ham12Si = 4
lora_cr_code LoraCrV.Cr5Ham45Li = 5
lora_cr_code LoraCrV.Cr6Ham23Li = 6
lora_cr_code LoraCrV.Cr7Ham12Li = 7
lora_cr_code LoraCrV.Cr8Cc23 = 8
lora_cr_code LoraCrV.Cr9Cc12 = 9

abbrev pub ldro_code : Ldro → ℕ
ldro_code LdroV.Off = 0
ldro_code LdroV.On = 1

abbrev pub lora_filter_code : LoraFilter → ℕ
lora_filter_code LoraFilterV.Auto = 0
lora_filter_code LoraFilterV.Chf = 1
lora_filter_code LoraFilterV.Dcc = 2
lora_filter_code LoraFilterV.DccF = 3

abbrev pub header_type_code : HeaderType → ℕ
header_type_code HeaderTypeV.Explicit = 0
header_type_code HeaderTypeV.Implicit = 1

abbrev pub timeout_format_code : TimeoutFormat → ℕ
timeout_format_code TimeoutFormatV.Integer = 0
timeout_format_code TimeoutFormatV.Float = 1

abbrev pub lora_cad_exit_mode_code : LoraCadExitMode → ℕ
lora_cad_exit_mode_code LoraCadExitModeV.CadOnly = 0
lora_cad_exit_mode_code LoraCadExitModeV.CadRx = 1
lora_cad_exit_mode_code LoraCadExitModeV.CadLbt = 16

abbrev pub addr_len_code : AddrLen → ℕ
addr_len_code AddrLenV.AddrNone = 0
addr_len_code AddrLenV.Addr1B = 1
addr_len_code AddrLenV.Addr2B = 2
addr_len_code AddrLenV.Addr3B = 3
addr_len_code AddrLenV.Addr4B = 4
addr_len_code AddrLenV.Addr5B = 5
addr_len_code AddrLenV.Addr6B = 6
addr_len_code AddrLenV.Addr7B = 7
addr_len_code AddrLenV.Addr8B = 8

abbrev pub timing_sync_mode_code : TimingSyncMode → ℕ
timing_sync_mode_code TimingSyncModeV.Disabled = 0
timing_sync_mode_code TimingSyncModeV.Initiator = 1
timing_sync_mode_code TimingSyncModeV.Responder = 2
