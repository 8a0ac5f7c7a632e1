-- Names of the instruction list in groups, by what they end in. Each name is in one.
use Rattle.amd64_table.specs.declared.mnemonic.Mnemonic.{Mnemonic}
use Rattle.amd64_table.specs.declared.mnemonic.Mnemonic.TheVariants as name

pub data Group : Type 0 where
  Whole : Group
  Computing : Group
  Moving : Group
  Conditional : Group

unfoldable pub group_of : Mnemonic → Group
group_of (name.Arithmetic op width) = Computing
group_of (name.Unary op width) = Computing
group_of (name.MulDiv op width) = Computing
group_of (name.Mov width) = Moving
group_of (name.Cmp width) = Moving
group_of (name.Test width) = Moving
group_of (name.RmReg op width) = Moving
group_of (name.Shift op width) = Moving
group_of (name.Exchange width) = Moving
group_of (name.Atomic op width) = Moving
group_of (name.SwapBytes width) = Moving
group_of (name.SetCc code) = Conditional
group_of (name.MoveCc width code) = Conditional
group_of (name.JumpIf code) = Conditional
group_of _ = Whole
