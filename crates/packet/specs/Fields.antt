-- Paper 01: "Addresses (bytes 2-5) and lengths (bytes 7-8; A8 and AA bytes 6-9; 03 and 12 byte 4) are big-endian."
use Rattle.ground.specs.Kit.{List, ℕ}
use Rattle.disc.specs.declared.{BlockAddress.BlockAddress}
use Rattle.packet.specs.declared.{Field.Field}
use Rattle.ground.specs.Bytes.{byte_at, word, long}
use Rattle.packet.specs.declared.Field.TheVariants.{Nowhere, Byte4, Bytes7To8, Bytes6To9}

unfoldable pub address_of : List ℕ → BlockAddress
address_of p = record { 0 = long (byte_at p 2) (byte_at p 3) (byte_at p 4) (byte_at p 5) }

unfoldable pub length_of : Field → List ℕ → ℕ
length_of Nowhere p = 0
length_of Byte4 p = byte_at p 4
length_of Bytes7To8 p = word (byte_at p 7) (byte_at p 8)
length_of Bytes6To9 p = long (byte_at p 6) (byte_at p 7) (byte_at p 8) (byte_at p 9)
