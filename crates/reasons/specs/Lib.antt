pub mod WhyBytes
