pub mod Rising
pub mod Stripes
pub mod Named
pub mod Union
