pub mod AddressTexts
pub mod Fields
pub mod Hexadecimal
pub mod KeyOrder
pub mod KeySets
pub mod OneText
pub mod Parts
pub mod WholeAddress
